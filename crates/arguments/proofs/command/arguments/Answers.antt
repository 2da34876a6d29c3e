use Rattle.std.proofs.Common.{◌≡◌, ◌∙◌, ◌⊎◌, Some, ap, codes, inl, inr, map, rules}
use Rattle.std.specs.String.{string_bytes}
use Rattle.clap.specs.Words.{Text, found_of, rows_of}
use Rattle.clap.proofs.TakesLemmas.{passed_up}
use Rattle.arguments.proofs.Numbers.{HasNumbers}
use Rattle.arguments.proofs.Taken.{command_facts, fault_found, read_as, some_command}
use Rattle.arguments.proofs.command.arguments.Goals as goal

pub setup_of-requires : goal.setup_of-requires
setup_of-requires c =
    let words = map string_bytes c.args.words.now in
    let rows = rows_of (found_of c.in-Some.options.now) in
    let parsed = c.in_ok-matches.ensures in
    let read = read_as c.in_ok-command.field-0 words c.in_ok-matches.matches c.in-Some.name.now rows c.in_ok-command.ensures parsed.kinds parsed.matches c.in-Some.ensures.name c.in-Some.ensures.rows in
    let no_serve : c.in-Some.name.now ≡ codes "serve" → ⊥ = search rules in
    let no_hash : c.in-Some.name.now ≡ codes "hash-password" → ⊥ = search rules in
    let numbers : HasNumbers rows = elim (command_facts words c.in-Some.name.now rows read) [
      | inl facts ↦ facts.1
      | inr other ↦ elim other [
        | inl is ↦ absurd (no_serve is)
        | inr is ↦ absurd (no_hash is)
      ]
    ] in
    record { capacity = numbers.0; max_inflight = numbers.1 }

pub returns-in_default-clause-err : goal.returns-in_default-clause-err
returns-in_default-clause-err c =
    let words = map string_bytes c.args.words.now in
    let parsed = c.in_ok-matches.ensures in
    absurd (some_command c.in_ok-command.field-0 words c.in_ok-matches.matches c.in_ok-command.ensures parsed.kinds parsed.matches c.in_default.ensures.rows)

pub returns-in_err-matches-clause-err : goal.returns-in_err-matches-clause-err
returns-in_err-matches-clause-err c =
    passed_up c.from_residual-in_err-matches.result c.in_err-matches.field-0.0 _ c.from_residual-in_err-matches.ensures.1
    (fault_found c.in_ok-command.field-0 (map string_bytes c.args.words.now) c.in_err-matches.field-0.0 c.in_ok-command.ensures c.in_err-matches.ensures.kinds)

pub returns-in_err-service-clause-err : goal.returns-in_err-service-clause-err
returns-in_err-service-clause-err c =
    let words = map string_bytes c.args.words.now in
    let rows = rows_of (found_of c.in-Some.options.now) in
    let parsed = c.in_ok-matches.ensures in
    let read = read_as c.in_ok-command.field-0 words c.in_ok-matches.matches c.in-Some.name.now rows c.in_ok-command.ensures parsed.kinds parsed.matches c.in-Some.ensures.name c.in-Some.ensures.rows in
    let serve : c.in-Some.name.now ≡ codes "serve" = search rules in
    passed_up c.from_residual-in_err-service.result c.in_err-service.field-0.0 _ c.from_residual-in_err-service.ensures.1
    (elim c.in_err-service.ensures.err [
      | inl memory ↦ inl memory
      | inr refused ↦ inr (inr (refused.0, inr (inl (rows, (read.0, read.1 ∙ ap (λ (name : Text). Some (name, rows)) serve), refused.1))))
    ])

pub returns-then-eq-clause-ok : goal.returns-then-eq-clause-ok
returns-then-eq-clause-ok c =
    let words = map string_bytes c.args.words.now in
    let rows = rows_of (found_of c.in-Some.options.now) in
    let parsed = c.in_ok-matches.ensures in
    let read = read_as c.in_ok-command.field-0 words c.in_ok-matches.matches c.in-Some.name.now rows c.in_ok-command.ensures parsed.kinds parsed.matches c.in-Some.ensures.name c.in-Some.ensures.rows in
    let serve : c.in-Some.name.now ≡ codes "serve" = search rules in
    (rows, (read.0, read.1 ∙ ap (λ (name : Text). Some (name, rows)) serve), c.in_ok-service.ensures.ok)

pub returns-in_err-password-clause-err : goal.returns-in_err-password-clause-err
returns-in_err-password-clause-err c =
    let words = map string_bytes c.args.words.now in
    let rows = rows_of (found_of c.in-Some.options.now) in
    let parsed = c.in_ok-matches.ensures in
    let read = read_as c.in_ok-command.field-0 words c.in_ok-matches.matches c.in-Some.name.now rows c.in_ok-command.ensures parsed.kinds parsed.matches c.in-Some.ensures.name c.in-Some.ensures.rows in
    let hash : c.in-Some.name.now ≡ codes "hash-password" = search rules in
    passed_up c.from_residual-in_err-password.result c.in_err-password.field-0.0 _ c.from_residual-in_err-password.ensures.1
    (elim c.in_err-password.ensures.err [
      | inl memory ↦ inl memory
      | inr refused ↦ inr (inr (refused.0, inr (inr (rows, (read.0, read.1 ∙ ap (λ (name : Text). Some (name, rows)) hash), refused.1))))
    ])

pub returns-then-eq-2-clause-ok : goal.returns-then-eq-2-clause-ok
returns-then-eq-2-clause-ok c =
    let words = map string_bytes c.args.words.now in
    let rows = rows_of (found_of c.in-Some.options.now) in
    let parsed = c.in_ok-matches.ensures in
    let read = read_as c.in_ok-command.field-0 words c.in_ok-matches.matches c.in-Some.name.now rows c.in_ok-command.ensures parsed.kinds parsed.matches c.in-Some.ensures.name c.in-Some.ensures.rows in
    let hash : c.in-Some.name.now ≡ codes "hash-password" = search rules in
    (rows, (read.0, read.1 ∙ ap (λ (name : Text). Some (name, rows)) hash), c.in_ok-password.ensures.ok)

pub returns-in_err-setup-clause-err : goal.returns-in_err-setup-clause-err
returns-in_err-setup-clause-err c =
    let words = map string_bytes c.args.words.now in
    let rows = rows_of (found_of c.in-Some.options.now) in
    let parsed = c.in_ok-matches.ensures in
    let read = read_as c.in_ok-command.field-0 words c.in_ok-matches.matches c.in-Some.name.now rows c.in_ok-command.ensures parsed.kinds parsed.matches c.in-Some.ensures.name c.in-Some.ensures.rows in
    let no_serve : c.in-Some.name.now ≡ codes "serve" → ⊥ = search rules in
    let no_hash : c.in-Some.name.now ≡ codes "hash-password" → ⊥ = search rules in
    let named : (c.in-Some.name.now ≡ codes "solo") ⊎ (c.in-Some.name.now ≡ codes "drive") = elim (command_facts words c.in-Some.name.now rows read) [
      | inl facts ↦ facts.0
      | inr other ↦ elim other [
        | inl is ↦ absurd (no_serve is)
        | inr is ↦ absurd (no_hash is)
      ]
    ] in
    passed_up c.from_residual-in_err-setup.result c.in_err-setup.field-0.0 _ c.from_residual-in_err-setup.ensures.1
    (elim c.in_err-setup.ensures.err [
      | inl memory ↦ inl memory
      | inr refused ↦ inr (inr (refused.0, inl (c.in-Some.name.now, rows, refused.1.0, named, read, refused.1.1)))
    ])

pub returns-then-eq-3-clause-ok : goal.returns-then-eq-3-clause-ok
returns-then-eq-3-clause-ok c =
    let words = map string_bytes c.args.words.now in
    let rows = rows_of (found_of c.in-Some.options.now) in
    let parsed = c.in_ok-matches.ensures in
    let read = read_as c.in_ok-command.field-0 words c.in_ok-matches.matches c.in-Some.name.now rows c.in_ok-command.ensures parsed.kinds parsed.matches c.in-Some.ensures.name c.in-Some.ensures.rows in
    let drive : c.in-Some.name.now ≡ codes "drive" = search rules in
    (rows, (read.0, read.1 ∙ ap (λ (name : Text). Some (name, rows)) drive), c.in_ok-setup.ensures.ok)

pub returns-clause-ok : goal.returns-clause-ok
returns-clause-ok c =
    let words = map string_bytes c.args.words.now in
    let rows = rows_of (found_of c.in-Some.options.now) in
    let parsed = c.in_ok-matches.ensures in
    let read = read_as c.in_ok-command.field-0 words c.in_ok-matches.matches c.in-Some.name.now rows c.in_ok-command.ensures parsed.kinds parsed.matches c.in-Some.ensures.name c.in-Some.ensures.rows in
    let no_serve : c.in-Some.name.now ≡ codes "serve" → ⊥ = search rules in
    let no_hash : c.in-Some.name.now ≡ codes "hash-password" → ⊥ = search rules in
    let no_drive : c.in-Some.name.now ≡ codes "drive" → ⊥ = search rules in
    let solo : c.in-Some.name.now ≡ codes "solo" = elim (command_facts words c.in-Some.name.now rows read) [
      | inl facts ↦ elim facts.0 [
        | inl is ↦ is
        | inr is ↦ absurd (no_drive is)
      ]
      | inr other ↦ elim other [
        | inl is ↦ absurd (no_serve is)
        | inr is ↦ absurd (no_hash is)
      ]
    ] in
    (rows, (read.0, read.1 ∙ ap (λ (name : Text). Some (name, rows)) solo), c.in_ok-setup.ensures.ok)
