-- Words ask for one thing.
use Rattle.std.proofs.Common.{◌≡◌, ◌∙◌, ◌≤◌, ℕ, Bool, true, false, List, [], ◌∷◌, Option, Some, None, Ok, Err, ap, arith, codes, inl, inr, refl, rules, subst, sym}
use Rattle.std.specs.Prelude.{IsSome, ◌==◌, if◌then◌else◌}
use Rattle.broker_log.specs.declared.level.Level.{Level}
use Rattle.broker_log.specs.declared.level.Level.TheVariants as levels
use Rattle.std.specs.Coded.{×_prop, le_prop}
use mathlib.Core.HLevel.{is_prop→PathP}
use Rattle.std.specs.Net.Grammar.{IsIpv4Text}
use Rattle.std.proofs.NetLemmas.Theorems.{IsIpv4Text_unique}
use Rattle.mqtt_topic.specs.Names.{Share}
use Rattle.clap.specs.Words.{IsAmong, Row, Text, fault_of, subcommand_of}
use Rattle.clap.specs.Kinds.{Kinds}
use Rattle.clap.specs.declared.error.kind.ErrorKind.{ErrorKind}
use Rattle.conn_rules.specs.declared.setup.Setup.{Setup}
use Rattle.arguments.specs.Groups.{Adds, AddsEach, RefusesOne, share_named}
use Rattle.arguments.specs.Options.{HasNumber, HasNumberIf, pairs_in}
use Rattle.arguments.specs.CommandLine.{AreReadAs, AskFor, HaveNoPassword, HaveNoService, HaveRefusedPair, IsPasswordBy, IsServiceBy, IsSetupBy, SpellNoRequest, command_line, flag_word, level_word, word_of}
use Rattle.arguments.specs.declared.command.Request.{Request}
use Rattle.arguments.specs.declared.command.Request.TheVariants.{Drive, HashPassword, Serve, Solo}
use Rattle.arguments.specs.declared.groups.Refusal.{Refusal}
use Rattle.arguments.specs.declared.groups.Refusal.TheVariants.{Ninth, NoShare, Twice}
use Rattle.arguments.specs.declared.password.PasswordOptions.{PasswordOptions}
use Rattle.arguments.specs.declared.service.ServeOptions.{ServeOptions}
use Rattle.arguments.specs.declared.service.ServeUntil.{ServeUntil}
use Rattle.arguments.specs.declared.service.ServeUntil.TheVariants.{Stdin, Killed}
use Rattle.arguments.proofs.Taken.{same_pair}
use Rattle.arguments.proofs.Values.{same_text, spelled_once}

adds_one : (old : List Share) (share : Option Share) (a b : List Share) → Adds old share (Ok tt) a → Adds old share (Ok tt) b → b ≡ a
adds_one old None a b (bad, same) h = cc
adds_one old (Some share) a b h i = i.2 ∙ sym h.2

each_one : (pairs : List Text) (old a b : List Share) → AddsEach old pairs a → AddsEach old pairs b → a ≡ b
each_one [] old a b h i = h ∙ sym i
each_one (pair ∷ pairs) old a b (next, first, others) (next', first', others') =
    each_one pairs next a b others (subst (λ groups. AddsEach groups pairs b) (adds_one old (share_named pair) next next' first first') others')

never_both : (old new : List Share) (share : Option Share) (refusal : Refusal) → Adds old share (Ok tt) new → Adds old share (Err refusal) old → ⊥
never_both old new None refusal (bad, same) i = cc
never_both old new (Some share) NoShare h i = i
never_both old new (Some share) Twice h i =
    let some : IsSome {T = ℕ} None = subst (IsSome {T = ℕ}) h.0 i.0 in
    absurd (search (rules, some))
never_both old new (Some share) Ninth h i = omega (arith, h.1, i.1)

pub each_or_refused : (pairs : List Text) (old new : List Share) (refusal : Refusal) → AddsEach old pairs new → RefusesOne old pairs refusal → ⊥
each_or_refused [] old new refusal h i = i
each_or_refused (pair ∷ pairs) old new refusal (next, first, others) (inl refused) = never_both old next (share_named pair) refusal first refused
each_or_refused (pair ∷ pairs) old new refusal (next, first, others) (inr (next', first', refused)) =
    each_or_refused pairs next new refusal others (subst (λ groups. RefusesOne groups pairs refusal) (adds_one old (share_named pair) next next' first first') refused)

one_number : (id : Text) (least most : ℕ) (rows : List Row) (a b : ℕ) → HasNumber id least most rows a → HasNumber id least most rows b → a ≡ b
one_number id least most rows a b h i = spelled_once h.text i.text a b (same_text _ h.text i.text h.value i.value) h.spelled i.spelled

one_number_if : (id : Text) (least most : ℕ) (rows : List Row) (a b : Option ℕ) → HasNumberIf id least most rows a → HasNumberIf id least most rows b → a ≡ b
one_number_if id least most rows None None h i = refl
one_number_if id least most rows (Some a) (Some b) h i = ap (λ (n : ℕ). Some n) (one_number id least most rows a b h i)
one_number_if id least most rows None (Some b) h i =
    let bad : None ≡ Some i.text = sym h ∙ i.value in
    cc
one_number_if id least most rows (Some a) None h i =
    let bad : None ≡ Some h.text = sym i ∙ h.value in
    cc

one_setup : (rows : List Row) (a b : Setup) → IsSetupBy rows a → IsSetupBy rows b → a ≡ b
one_setup rows a b h i =
    let made : ℕ → ℕ → List Share → Setup = λ capacity max_inflight groups. record { capacity = capacity; max_inflight = max_inflight; groups = groups } in
    let capacity = one_number (codes "capacity") 1 65536 rows a.capacity b.capacity h.0 i.0 in
    let max_inflight = one_number (codes "max-inflight") 1 256 rows a.max_inflight b.max_inflight h.1 i.1 in
    let groups = each_one (pairs_in rows) [] a.groups b.groups h.2 i.2 in
    (λ i. made (capacity i) (max_inflight i) (groups i))

one_address : (rows : List Row) (a b : ServeOptions) → IsServiceBy rows a → IsServiceBy rows b → a.address ≡ b.address
one_address rows a b h i =
    IsIpv4Text_unique i.text a.address b.address (subst (λ text. IsIpv4Text text a.address) (same_text _ h.text i.text h.value i.value) h.address) i.address

abbrev first_letter : Text → ℕ
first_letter [] = 0
first_letter (letter ∷ letters) = letter

one_word : (a b : ServeUntil) → word_of a ≡ word_of b → a ≡ b
one_word Stdin Stdin same = refl
one_word Killed Killed same = refl
one_word Stdin Killed same =
    let letters : 115 ≡ 107 = ap first_letter same in
    absurd (omega (arith, letters))
one_word Killed Stdin same =
    let letters : 107 ≡ 115 = ap first_letter same in
    absurd (omega (arith, letters))

-- what the letter that a word of `--log` begins with says
abbrev level_by : ℕ → Level
level_by letter = if letter == 101 then levels.Error else (if letter == 105 then levels.Info else (if letter == 100 then levels.Debug else levels.Off))

level_back : (level : Level) → level_by (first_letter (level_word level)) ≡ level
level_back levels.Off = refl
level_back levels.Error = refl
level_back levels.Info = refl
level_back levels.Debug = refl

one_level : (a b : Level) → level_word a ≡ level_word b → a ≡ b
one_level a b same = sym (level_back a) ∙ ap (λ word. level_by (first_letter word)) same ∙ level_back b

one_log : (rows : List Row) (a b : ServeOptions) → IsServiceBy rows a → IsServiceBy rows b → a.log ≡ b.log
one_log rows a b h i = one_level a.log b.log (same_text _ (level_word a.log) (level_word b.log) h.log i.log)

one_flag : (a b : Bool) → flag_word a ≡ flag_word b → a ≡ b
one_flag true true same = refl
one_flag false false same = refl
one_flag true false same =
    let letters : 116 ≡ 102 = ap first_letter same in
    absurd (omega (arith, letters))
one_flag false true same =
    let letters : 102 ≡ 116 = ap first_letter same in
    absurd (omega (arith, letters))

one_keep : (rows : List Row) (a b : ServeOptions) → IsServiceBy rows a → IsServiceBy rows b → a.keep_parked ≡ b.keep_parked
one_keep rows a b h i = one_flag a.keep_parked b.keep_parked (same_text _ (flag_word a.keep_parked) (flag_word b.keep_parked) h.keep_parked i.keep_parked)

one_declared : (rows : List Row) (a b : ServeOptions) → IsServiceBy rows a → IsServiceBy rows b → a.declared_groups ≡ b.declared_groups
one_declared rows a b h i =
    one_flag a.declared_groups b.declared_groups (same_text _ (flag_word a.declared_groups) (flag_word b.declared_groups) h.declared_groups i.declared_groups)

one_until : (rows : List Row) (a b : ServeOptions) → IsServiceBy rows a → IsServiceBy rows b → a.until ≡ b.until
one_until rows a b h i = one_word a.until b.until (same_text _ (word_of a.until) (word_of b.until) h.until i.until)

abbrev IsFew : ℕ → Type 0
IsFew workers = (1 ≤ workers) × (workers ≤ 64)

one_service : (rows : List Row) (a b : ServeOptions) → IsServiceBy rows a → IsServiceBy rows b → a ≡ b
one_service rows a b h i =
    let address = one_address rows a b h i in
    let port = one_number (codes "port") 0 65535 rows a.port b.port h.port i.port in
    let workers = one_number (codes "workers") 1 64 rows a.workers b.workers h.workers i.workers in
    let until = one_until rows a b h i in
    let drain = one_number (codes "drain") 0 86400 rows a.drain b.drain h.drain i.drain in
    let metrics = one_number (codes "metrics") 0 65535 rows a.metrics b.metrics h.metrics i.metrics in
    let log = one_log rows a b h i in
    let sessions = one_number (codes "sessions") 1 65536 rows a.sessions b.sessions h.sessions i.sessions in
    let keep_parked = one_keep rows a b h i in
    let declared_groups = one_declared rows a b h i in
    let per_address = one_number (codes "per-address") 0 65535 rows a.per_address b.per_address h.per_address i.per_address in
    let capacity = one_number (codes "capacity") 1 65536 rows a.capacity b.capacity h.capacity i.capacity in
    let max_inflight = one_number (codes "max-inflight") 1 256 rows a.max_inflight b.max_inflight h.max_inflight i.max_inflight in
    let max_expiry = one_number_if (codes "max-expiry") 1 4294967295 rows a.max_expiry b.max_expiry h.max_expiry i.max_expiry in
    let max_keep_alive = one_number_if (codes "max-keep-alive") 1 65535 rows a.max_keep_alive b.max_keep_alive h.max_keep_alive i.max_keep_alive in
    let users = sym h.users ∙ i.users in
    let groups = each_one (pairs_in rows) [] a.groups b.groups h.groups i.groups in
    (λ i. record { address = address i; port = port i; workers = workers i; until = until i; drain = drain i; metrics = metrics i; log = log i; sessions = sessions i; keep_parked = keep_parked i; declared_groups = declared_groups i; per_address = per_address i; max_expiry = max_expiry i; max_keep_alive = max_keep_alive i; users = users i; capacity = capacity i; max_inflight = max_inflight i; groups = groups i; few = is_prop→PathP (λ j. IsFew (workers j)) (λ j. ×_prop le_prop le_prop) a.few b.few i })

abbrev IsCounted : ℕ → Type 0
IsCounted iterations = (1 ≤ iterations) × (iterations ≤ 1000000)

one_password : (rows : List Row) (a b : PasswordOptions) → IsPasswordBy rows a → IsPasswordBy rows b → a ≡ b
one_password rows a b h i =
    let name = same_text _ a.name b.name h.name i.name in
    let iterations = one_number (codes "iterations") 1 1000000 rows a.iterations b.iterations h.iterations i.iterations in
    (λ i. record { name = name i; iterations = iterations i; counted = is_prop→PathP (λ j. IsCounted (iterations j)) (λ j. ×_prop le_prop le_prop) a.counted b.counted i })

one_reading : (words : List Text) (a b : Text) (x y : List Row) → AreReadAs words a x → AreReadAs words b y → (a ≡ b) × (y ≡ x)
one_reading words a b x y h i = same_pair (subcommand_of command_line words) a b x y h.1 i.1

not_drive : codes "solo" ≡ codes "drive" → ⊥
not_drive e = cc

not_serve : codes "solo" ≡ codes "serve" → ⊥
not_serve e = cc

drive_not_serve : codes "drive" ≡ codes "serve" → ⊥
drive_not_serve e =
    let letters : 100 ≡ 115 = ap first_letter e in
    absurd (omega (arith, letters))

not_hash : codes "solo" ≡ codes "hash-password" → ⊥
not_hash e =
    let letters : 115 ≡ 104 = ap first_letter e in
    absurd (omega (arith, letters))

drive_not_hash : codes "drive" ≡ codes "hash-password" → ⊥
drive_not_hash e =
    let letters : 100 ≡ 104 = ap first_letter e in
    absurd (omega (arith, letters))

serve_not_hash : codes "serve" ≡ codes "hash-password" → ⊥
serve_not_hash e =
    let letters : 115 ≡ 104 = ap first_letter e in
    absurd (omega (arith, letters))

pub one : (words : List Text) (a b : Request) → AskFor words a → AskFor words b → a ≡ b
one words (Solo a) (Solo b) (x, read, setup) (y, read', setup') =
    let same = one_reading words (codes "solo") (codes "solo") x y read read' in
    ap Solo (one_setup x a b setup (subst (λ rows. IsSetupBy rows b) same.1 setup'))
one words (Solo a) (Drive b) (x, read, setup) (y, read', setup') = absurd (not_drive (one_reading words (codes "solo") (codes "drive") x y read read').0)
one words (Drive a) (Solo b) (x, read, setup) (y, read', setup') = absurd (not_drive (sym (one_reading words (codes "drive") (codes "solo") x y read read').0))
one words (Drive a) (Drive b) (x, read, setup) (y, read', setup') =
    let same = one_reading words (codes "drive") (codes "drive") x y read read' in
    ap Drive (one_setup x a b setup (subst (λ rows. IsSetupBy rows b) same.1 setup'))
one words (Serve a) (Serve b) (x, read, service) (y, read', service') =
    let same = one_reading words (codes "serve") (codes "serve") x y read read' in
    ap Serve (one_service x a b service (subst (λ rows. IsServiceBy rows b) same.1 service'))
one words (Solo a) (Serve b) (x, read, setup) (y, read', service) = absurd (not_serve (one_reading words (codes "solo") (codes "serve") x y read read').0)
one words (Serve a) (Solo b) (x, read, service) (y, read', setup) = absurd (not_serve (sym (one_reading words (codes "serve") (codes "solo") x y read read').0))
one words (Drive a) (Serve b) (x, read, setup) (y, read', service) = absurd (drive_not_serve (one_reading words (codes "drive") (codes "serve") x y read read').0)
one words (Serve a) (Drive b) (x, read, service) (y, read', setup) = absurd (drive_not_serve (sym (one_reading words (codes "serve") (codes "drive") x y read read').0))
one words (HashPassword a) (HashPassword b) (x, read, password) (y, read', password') =
    let same = one_reading words (codes "hash-password") (codes "hash-password") x y read read' in
    ap HashPassword (one_password x a b password (subst (λ rows. IsPasswordBy rows b) same.1 password'))
one words (Solo a) (HashPassword b) (x, read, setup) (y, read', password) = absurd (not_hash (one_reading words (codes "solo") (codes "hash-password") x y read read').0)
one words (HashPassword a) (Solo b) (x, read, password) (y, read', setup) = absurd (not_hash (sym (one_reading words (codes "hash-password") (codes "solo") x y read read').0))
one words (Drive a) (HashPassword b) (x, read, setup) (y, read', password) = absurd (drive_not_hash (one_reading words (codes "drive") (codes "hash-password") x y read read').0)
one words (HashPassword a) (Drive b) (x, read, password) (y, read', setup) = absurd (drive_not_hash (sym (one_reading words (codes "hash-password") (codes "drive") x y read read').0))
one words (Serve a) (HashPassword b) (x, read, service) (y, read', password) = absurd (serve_not_hash (one_reading words (codes "serve") (codes "hash-password") x y read read').0)
one words (HashPassword a) (Serve b) (x, read, password) (y, read', service) = absurd (serve_not_hash (sym (one_reading words (codes "hash-password") (codes "serve") x y read read').0))

among_none : (kind : ErrorKind) (kinds : Kinds) → kinds ≡ [] → IsAmong kind kinds → ⊥
among_none kind [] none among = among
among_none kind (k ∷ ks) none among = cc

-- words that are read with groups that none refuses have no refused pair
no_refused_pair : (words : List Text) (name : Text) (rows : List Row) (groups : List Share) → AreReadAs words name rows → AddsEach [] (pairs_in rows) groups → HaveRefusedPair words → ⊥
no_refused_pair words name rows groups read adds (name', rows', refusal, named, read', refused) =
    let same = one_reading words name name' rows rows' read read' in
    each_or_refused (pairs_in rows) [] groups refusal adds (subst (λ rows. RefusesOne [] (pairs_in rows) refusal) same.1 refused)

-- words that are read as a command without pairs have no refused pair
no_pairs : (words : List Text) (name : Text) (rows : List Row) → AreReadAs words name rows → (codes "solo" ≡ name → ⊥) → (codes "drive" ≡ name → ⊥) → HaveRefusedPair words → ⊥
no_pairs words name rows read not_solo not_drive (name', rows', refusal, inl is, read', refused) = not_solo (sym is ∙ (one_reading words name' name rows' rows read' read).0)
no_pairs words name rows read not_solo not_drive (name', rows', refusal, inr is, read', refused) = not_drive (sym is ∙ (one_reading words name' name rows' rows read' read).0)

-- words that are read as another command do not ask for no service, nor for no password
other_command : (words : List Text) (name : Text) (rows : List Row) → AreReadAs words name rows → (name ≡ codes "serve" → ⊥) → HaveNoService words → ⊥
other_command words name rows read differs (rows', read', none) = differs (one_reading words name (codes "serve") rows rows' read read').0

no_hashing : (words : List Text) (name : Text) (rows : List Row) → AreReadAs words name rows → (name ≡ codes "hash-password" → ⊥) → HaveNoPassword words → ⊥
no_hashing words name rows read differs (rows', read', none) = differs (one_reading words name (codes "hash-password") rows rows' read read').0

pub exclusive : (words : List Text) (request : Request) (kind : ErrorKind) → AskFor words request → SpellNoRequest words kind → ⊥
exclusive words (Solo setup) kind (rows, read, by) (inl fault) = among_none kind (fault_of command_line words) read.0 fault
exclusive words (Solo setup) kind (rows, read, by) (inr (is, inl pair)) = no_refused_pair words (codes "solo") rows setup.groups read by.2 pair
exclusive words (Solo setup) kind (rows, read, by) (inr (is, inr (inl none))) = other_command words (codes "solo") rows read not_serve none
exclusive words (Solo setup) kind (rows, read, by) (inr (is, inr (inr none))) = no_hashing words (codes "solo") rows read not_hash none
exclusive words (Drive setup) kind (rows, read, by) (inl fault) = among_none kind (fault_of command_line words) read.0 fault
exclusive words (Drive setup) kind (rows, read, by) (inr (is, inl pair)) = no_refused_pair words (codes "drive") rows setup.groups read by.2 pair
exclusive words (Drive setup) kind (rows, read, by) (inr (is, inr (inl none))) = other_command words (codes "drive") rows read drive_not_serve none
exclusive words (Drive setup) kind (rows, read, by) (inr (is, inr (inr none))) = no_hashing words (codes "drive") rows read drive_not_hash none
exclusive words (Serve service) kind (rows, read, by) (inl fault) = among_none kind (fault_of command_line words) read.0 fault
exclusive words (Serve service) kind (rows, read, by) (inr (is, inl pair)) = no_refused_pair words (codes "serve") rows service.groups read by.groups pair
exclusive words (Serve service) kind (rows, read, by) (inr (is, inr (inl (rows', read', none)))) =
    none service (subst (λ rows. IsServiceBy rows service) (sym (one_reading words (codes "serve") (codes "serve") rows rows' read read').1) by)
exclusive words (Serve service) kind (rows, read, by) (inr (is, inr (inr none))) = no_hashing words (codes "serve") rows read serve_not_hash none
exclusive words (HashPassword password) kind (rows, read, by) (inl fault) = among_none kind (fault_of command_line words) read.0 fault
exclusive words (HashPassword password) kind (rows, read, by) (inr (is, inl pair)) = no_pairs words (codes "hash-password") rows read not_hash drive_not_hash pair
exclusive words (HashPassword password) kind (rows, read, by) (inr (is, inr (inl none))) = other_command words (codes "hash-password") rows read (λ e. serve_not_hash (sym e)) none
exclusive words (HashPassword password) kind (rows, read, by) (inr (is, inr (inr (rows', read', none)))) =
    none password (subst (λ rows. IsPasswordBy rows password) (sym (one_reading words (codes "hash-password") (codes "hash-password") rows rows' read read').1) by)
