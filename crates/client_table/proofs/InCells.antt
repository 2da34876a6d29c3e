-- A cell is where its number says.
use Rattle.std.proofs.Common.{◌≡◌, ℕ, ◌<◌, List, Option, Some, length, get_or, slice_set, sym, ap, ◌∙◌, arith}
use Rattle.std.proofs.lemmas.Option.{slice_get-get_or}
use Rattle.client_table.specs.Clients.{ClientState}
use Rattle.client_table.specs.Cells.{InCell}

pub in_cell : {P : Type 0} (old cells : List (Option (ClientState P))) (number index : ℕ) (before after : Option (ClientState P))
    (Becomes : Option (ClientState P) → Option (ClientState P) → Type 0) → cells ≡ old → length cells ≡ 64 → number < 64 → index ≡ number
    → before ≡ get_or cells index before → Becomes before after → InCell old number Becomes (slice_set cells index after)
in_cell old cells number index before after Becomes same many small at is becomes =
    let within : number < length old = (let e = ap length same in omega arith) in
    record {
      before = before;
      after = after;
      has = slice_get-get_or old number before within ∙ ap Some (sym (is ∙ (λ i. get_or (same i) (at i) before)));
      becomes = becomes;
      is = λ i. slice_set (same i) (at i) after;
    }
