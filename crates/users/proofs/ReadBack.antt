-- A line that is made is read as it was meant.
use Rattle.std.proofs.Common.{◌≡◌, ℕ, ◌+◌, ◌-◌, ◌*◌, ◌<◌, ◌≤◌, ◌/◌, ◌%◌, Bool, true, false, not, ◌&&◌, cond, eqb, leb, bytes_eq, List, [], ◌∷◌, ◌++◌, length, Option, Some, None, Ok, option_and_then, true≢false, refl, sym, ap, ◌∙◌, arith, lit<}
use Rattle.std.proofs.lemmas.Bool.{lt-ltb}
use Rattle.std.proofs.lemmas.Bool.Decides.{nat_tests}
use Rattle.std.proofs.lemmas.Fmt.{decimal_by_steps}
use Rattle.std.proofs.lemmas.Slice.Eq.{bytes_eq-Decides}
use Rattle.std.specs.Fmt.{decimal}
use Rattle.std.specs.List.{list_all}
use Rattle.std.specs.Option.{option_map}
use Rattle.std.specs.Result.{result_ok}
use Rattle.base64.proofs.EngineFacts.{decode_of-encode_of}
use Rattle.base64.specs.Engines.{standard}
use Rattle.base64.specs.GeneralPurpose.{IsBytes, decoded_of}
use Rattle.users.specs.Cuts.{begins_blank, is_blank}
use Rattle.users.specs.Granting.{right_of, with_grant}
use Rattle.users.specs.Hashing.{pbkdf2_sha512}
use Rattle.users.specs.Laws.{MayBeMade, one_user}
use Rattle.users.specs.Lines.{after_lines, base64_of, begins_comment, fields_of, hash_of, if_size, is_name_byte, is_passed_over, is_user_name, iterations_of, of_fields, of_parts, password_of, salt_of, user_line, user_of, users_of, with_digit, with_digits, with_entry, with_line, with_user}
use Rattle.users.specs.Rights.{with_all_rights}
use Rattle.users.specs.Table.{StoredPassword, UserTable, admits, is_password_of}
use Rattle.users.proofs.Lacking.{lacks, lacks-append, lacks-base64, both_true, first_true, second_true, not_true, cut-append, one_line, no_return}
use Rattle.users.proofs.Made.{pieces, user_line_is}
use Rattle.users.proofs.Small.{length-pbkdf2, bytes-pbkdf2}

-- ---- the number of iterations

digits-append : (n : Option ℕ) (xs : List ℕ) (d : ℕ) → with_digits n (xs ++ d ∷ []) ≡ with_digits (with_digits n xs) (d ∷ [])
digits-append None xs d = refl
digits-append (Some n) [] d = refl
digits-append (Some n) (x ∷ xs) d = digits-append (with_digit n x) xs d

leb_is : (a b : ℕ) → a ≤ b → leb a b ≡ true
leb_is a b h = grind (arith, nat_tests)

one_digit : (n d : ℕ) → d < 10 → n * 10 + d ≤ 1000000 → with_digit n (48 + d) ≡ Some (n * 10 + d)
one_digit n d h few =
    let low : leb 48 (48 + d) ≡ true = leb_is 48 (48 + d) (omega arith) in
    let high : leb (48 + d) 57 ≡ true = leb_is (48 + d) 57 (omega arith) in
    let value : 48 + d - 48 ≡ d = omega arith in
    rw (low, high, value, leb_is (n * 10 + d) 1000000 few) refl

-- the digits of a number spell it, and none of them is another byte
record Reads (n : ℕ) (ds : List ℕ) : Type 0 where
  spells : n ≤ 1000000 → with_digits (Some 0) ds ≡ Some n
  dollars : lacks 36 ds ≡ true
  ends : lacks 10 ds ≡ true
  returns : lacks 13 ds ≡ true

other_digit : (d c : ℕ) → c < 48 → lacks c ((48 + d) ∷ []) ≡ true
other_digit d c h = both_true _ _ (grind (arith, nat_tests)) refl

first_digit : (n : ℕ) → n < 10 → Reads n ((48 + n) ∷ [])
first_digit n h = record {
  spells = λ few.
      let value : 0 * 10 + n ≡ n = omega arith in
      ap (λ found. with_digits found []) (one_digit 0 n h (omega arith)) ∙ ap Some value;
  dollars = other_digit n 36 (lit< tt);
  ends = other_digit n 10 (lit< tt);
  returns = other_digit n 13 (lit< tt);
}

more_digits : (n : ℕ) (ds : List ℕ) → 10 ≤ n → Reads (n / 10) ds → Reads n (ds ++ (48 + n % 10) ∷ [])
more_digits n ds h front = record {
  spells = λ few.
      let value : n / 10 * 10 + n % 10 ≡ n = omega arith in
      digits-append (Some 0) ds (48 + n % 10)
      ∙ ap (λ found. with_digits found ((48 + n % 10) ∷ [])) (front.spells (omega arith))
      ∙ ap (λ found. with_digits found []) (one_digit (n / 10) (n % 10) (omega arith) (omega arith))
      ∙ ap Some value;
  dollars = lacks-append 36 ds _ front.dollars (other_digit (n % 10) 36 (lit< tt));
  ends = lacks-append 10 ds _ front.ends (other_digit (n % 10) 10 (lit< tt));
  returns = lacks-append 13 ds _ front.returns (other_digit (n % 10) 13 (lit< tt));
}

digits_read : (n : ℕ) → n ≤ 1000000 → Reads n (decimal n)
digits_read n few = decimal_by_steps Reads first_digit more_digits n (omega arith)

iterations_read : (n : ℕ) → 0 < n → n ≤ 1000000 → iterations_of (decimal n) ≡ Some n
iterations_read n some few = rw ((digits_read n few).spells few, lt-ltb 0 n some) refl

-- ---- salt and hash

decoded_back : (bytes : List ℕ) → IsBytes bytes → decoded_of standard (base64_of bytes) ≡ Some bytes
unfolding decoded_of base64_of
decoded_back bytes small = ap result_ok (decode_of-encode_of standard bytes refl small)

sized : (least most : ℕ) (bytes : List ℕ) → least ≤ length bytes → length bytes ≤ most → if_size least most (Some bytes) ≡ Some bytes
sized least most bytes low high = rw (leb_is least (length bytes) low, leb_is (length bytes) most high) refl

salt_read : (salt : List ℕ) → IsBytes salt → 0 < length salt → length salt ≤ 64 → salt_of (base64_of salt) ≡ Some salt
unfolding salt_of
salt_read salt small some short = ap (if_size 1 64) (decoded_back salt small) ∙ sized 1 64 salt (omega arith) short

hash_read : (hash : List ℕ) → IsBytes hash → length hash ≡ 64 → hash_of (base64_of hash) ≡ Some hash
unfolding hash_of
hash_read hash small long = ap (if_size 64 64) (decoded_back hash small) ∙ sized 64 64 hash (omega arith) (omega arith)

-- ---- the name

names_lack : (c : ℕ) → ((byte : ℕ) → is_name_byte byte ≡ true → not (eqb byte c) ≡ true) → (name : List ℕ) → list_all is_name_byte name ≡ true → lacks c name ≡ true
names_lack c differs [] h = refl
names_lack c differs (byte ∷ bytes) h =
    both_true (not (eqb byte c)) (lacks c bytes) (differs byte (first_true (is_name_byte byte) (list_all is_name_byte bytes) h))
    (names_lack c differs bytes (second_true (is_name_byte byte) (list_all is_name_byte bytes) h))

no_colon : (byte : ℕ) → is_name_byte byte ≡ true → not (eqb byte 58) ≡ true
no_colon byte h = second_true (leb 32 byte && not (eqb byte 127)) (not (eqb byte 58)) h

differ : (a b c : ℕ) → c < a → leb a b ≡ true → not (eqb b c) ≡ true
differ a b c h e = grind (arith, nat_tests)

no_control : (c : ℕ) → c < 32 → (byte : ℕ) → is_name_byte byte ≡ true → not (eqb byte c) ≡ true
no_control c low byte h =
    differ 32 byte c low (first_true (leb 32 byte) (not (eqb byte 127)) (first_true (leb 32 byte && not (eqb byte 127)) (not (eqb byte 58)) h))

-- what a name of a user is not
record IsName (name : List ℕ) : Type 0 where
  some : not (eqb (length name) 0) ≡ true
  no_comment : not (begins_comment name) ≡ true
  no_blank : not (begins_blank name) ≡ true
  bytes : list_all is_name_byte name ≡ true

name_facts : (name : List ℕ) → is_user_name name ≡ true → IsName name
unfolding is_user_name
name_facts name h =
    let some = not (eqb (length name) 0) in
    let short = leb (length name) 128 in
    let plain = not (begins_comment name) in
    let inked = not (begins_blank name) in
    let bytes = list_all is_name_byte name in
    let four = first_true (some && short && plain && inked) bytes h in
    let three = first_true (some && short && plain) inked four in
    record {
      some = first_true some short (first_true (some && short) plain three);
      no_comment = second_true (some && short) plain three;
      no_blank = second_true (some && short && plain) inked four;
      bytes = second_true (some && short && plain && inked) bytes h;
    }

stays : (name rest : List ℕ) → IsName name → is_passed_over (name ++ rest) ≡ false
stays [] rest is = absurd (true≢false (sym is.some))
stays (byte ∷ bytes) rest is = not_true (eqb byte 35) is.no_comment

stands_first : (name rest : List ℕ) → IsName name → begins_blank (name ++ rest) ≡ false
stands_first [] rest is = absurd (true≢false (sym is.some))
stands_first (byte ∷ bytes) rest is = not_true (is_blank byte) is.no_blank

-- ---- the line

-- what stands behind the name
abbrev behind_name : List ℕ → List ℕ → List ℕ → List ℕ
behind_name digits salt hash = 36 ∷ 55 ∷ 36 ∷ (digits ++ 36 ∷ (salt ++ 36 ∷ hash))

fields_read : (digits salt hash : List ℕ) → lacks 36 digits ≡ true → lacks 36 salt ≡ true → fields_of (behind_name digits salt hash) ≡ Some (digits, salt, hash)
unfolding fields_of
fields_read digits salt hash whole clean =
    rw (cut-append 36 digits (salt ++ 36 ∷ hash) refl whole, cut-append 36 salt hash refl clean) refl

stored_read : (digits salt hash found_salt found_hash : List ℕ) (iterations : ℕ) → iterations_of digits ≡ Some iterations → salt_of salt ≡ Some found_salt → hash_of hash ≡ Some found_hash
    → of_fields (digits, salt, hash) ≡ Some (record { iterations = iterations; salt = found_salt; hash = found_hash })
stored_read digits salt hash found_salt found_hash iterations e f g = rw (e, f, g) refl

password_read : (text : List ℕ) (fields : List ℕ × List ℕ × List ℕ) (stored : StoredPassword) → fields_of text ≡ Some fields → of_fields fields ≡ Some stored → password_of text ≡ Some stored
unfolding password_of
password_read text fields stored e f = ap (λ found. option_and_then of_fields found) e ∙ f

user_read : (name rest : List ℕ) (stored : StoredPassword) → is_user_name name ≡ true → password_of rest ≡ Some stored → user_of (name ++ 58 ∷ rest) ≡ Some (name, with_all_rights stored)
unfolding user_of
user_read name rest stored is e =
    ap (λ found. option_and_then of_parts found) (cut-append 58 name rest refl (names_lack 58 no_colon name (name_facts name is).bytes))
    ∙ ap (λ (b : Bool). cond b (option_map (λ kept. (name, with_all_rights kept)) (password_of rest)) None) is
    ∙ ap (option_map (λ kept. (name, with_all_rights kept))) e

line_read : (name rest : List ℕ) (stored : StoredPassword) → is_user_name name ≡ true → password_of rest ≡ Some stored → with_line [] (name ++ 58 ∷ rest) ≡ Some ((name, with_all_rights stored) ∷ [])
unfolding with_line
line_read name rest stored is e =
    ap (λ (b : Bool). cond b (Some []) (with_entry [] (name ++ 58 ∷ rest))) (stays name (58 ∷ rest) (name_facts name is))
    ∙ ap (λ (b : Bool). cond b (with_grant [] (right_of (name ++ 58 ∷ rest))) (with_user [] (user_of (name ++ 58 ∷ rest)))) (stands_first name (58 ∷ rest) (name_facts name is))
    ∙ ap (with_user []) (user_read name rest stored is e)

file_read : (line : List ℕ) (table : UserTable) → lacks 10 line ≡ true → lacks 13 line ≡ true → with_line [] line ≡ Some table → users_of (line ++ 10 ∷ []) ≡ Ok table
unfolding users_of
file_read line table ends returns e =
    ap (after_lines 0 (Some [])) (one_line line ends)
    ∙ ap (λ (l : List ℕ). after_lines (0 + 1) (with_line [] l) []) (no_return line returns)
    ∙ ap (λ found. after_lines (0 + 1) found []) e

-- the line lacks a byte that neither its name nor its digits have
line_lacks : (c : ℕ) (name digits salt hash : List ℕ) → lacks c (58 ∷ 36 ∷ 55 ∷ 36 ∷ []) ≡ true → lacks c (36 ∷ []) ≡ true → lacks c name ≡ true → lacks c digits ≡ true → lacks c salt ≡ true → lacks c hash ≡ true
    → lacks c (pieces name digits salt hash) ≡ true
line_lacks c name digits salt hash head dollar n d s h =
    lacks-append c name _ n (lacks-append c (58 ∷ 36 ∷ 55 ∷ 36 ∷ []) _ head
    (lacks-append c digits _ d (lacks-append c (36 ∷ []) _ dollar (lacks-append c salt _ s (lacks-append c (36 ∷ []) hash dollar h)))))

pub read_back : (name password salt : List ℕ) (iterations : ℕ) → MayBeMade name salt iterations
    → users_of (user_line name password salt iterations ++ 10 ∷ []) ≡ Ok (one_user name password salt iterations)
read_back name password salt iterations may =
    let hash = pbkdf2_sha512 password salt iterations in
    let digits = decimal iterations in
    let line = pieces name digits (base64_of salt) (base64_of hash) in
    let numbers = digits_read iterations may.few_iterations in
    let bytes = (name_facts name may.name_is).bytes in
    let fields = fields_read digits (base64_of salt) (base64_of hash) numbers.dollars (lacks-base64 36 salt refl refl refl) in
    let stored = stored_read digits (base64_of salt) (base64_of hash) salt hash iterations (iterations_read iterations may.some_iteration may.few_iterations)
    (salt_read salt may.salt_bytes may.some_salt may.short_salt) (hash_read hash (bytes-pbkdf2 password salt iterations) (length-pbkdf2 password salt iterations)) in
    let kept : StoredPassword = record { iterations = iterations; salt = salt; hash = hash } in
    let rest = behind_name digits (base64_of salt) (base64_of hash) in
    let password_is = password_read rest (digits, base64_of salt, base64_of hash) kept fields stored in
    let ends = line_lacks 10 name digits (base64_of salt) (base64_of hash) refl refl (names_lack 10 (no_control 10 (lit< tt)) name bytes) numbers.ends (lacks-base64 10 salt refl refl refl) (lacks-base64 10 hash refl refl refl) in
    let returns = line_lacks 13 name digits (base64_of salt) (base64_of hash) refl refl (names_lack 13 (no_control 13 (lit< tt)) name bytes) numbers.returns (lacks-base64 13 salt refl refl refl) (lacks-base64 13 hash refl refl refl) in
    ap (λ (l : List ℕ). users_of (l ++ 10 ∷ [])) (user_line_is name password salt iterations)
    ∙ file_read line ((name, with_all_rights kept) ∷ []) ends returns (line_read name rest kept may.name_is password_is)

pub admitted_back : (name password salt other : List ℕ) (iterations : ℕ)
    → admits (one_user name password salt iterations) name other ≡ bytes_eq (pbkdf2_sha512 other salt iterations) (pbkdf2_sha512 password salt iterations)
unfolding admits
admitted_back name password salt other iterations =
    let kept : StoredPassword = record { iterations = iterations; salt = salt; hash = pbkdf2_sha512 password salt iterations } in
    ap (λ (b : Bool). is_password_of (cond b (Some (with_all_rights kept)) None) other) ((bytes_eq-Decides name name).1 refl)
