-- What a scripted source gives.
use Rattle.std.specs.Prelude.{◌≡◌, ◌⊎◌, List, [], ◌∷◌}
use Rattle.transport.specs.declared.answers.Arrival.{Arrival}
use Rattle.transport.specs.declared.answers.Arrival.TheVariants.{End}
use Rattle.transport.specs.declared.counts.Counts.{Counts}
use Rattle.transport.specs.declared.counts.Tally.{Tally}
use Rattle.transport.specs.Counting.{ComesNew}

-- what is still to be given, and how often it failed and gave
pub record Arrivals (T : Type 0) : Type 0 where
  pub turns : List (Arrival T)
  pub tally : Tally

-- the first of these is given; where there is none, the source has ended
abbrev pub Gives : {T : Type 0} → List (Arrival T) → Arrival T → List (Arrival T) → Type 0
Gives old answer new = (old ≡ answer ∷ new) ⊎ ((old ≡ []) × (new ≡ []) × (answer ≡ End))

-- of each transport among these nothing was counted yet
abbrev pub ComeNew : {T : Type 0} → (T → Counts) → List (Arrival T) → Type 0
ComeNew counts [] = Unit {0}
ComeNew counts (turn ∷ turns) = ComesNew counts turn × ComeNew counts turns
