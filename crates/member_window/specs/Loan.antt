-- What a window is once the loan of an item is over.
use Rattle.std.specs.Prelude.{◌≡◌, ⊤}
use Rattle.std.specs.Borrow.{RattleType, MutBor, Fml, follows_so}
use mathlib.Core.Option.{none}

-- what was lent from ends as this value: the result only looks at it
abbrev pub EndsAs : (R : RattleType) → MutBor R.Denot → R.Denot → Fml
EndsAs R lender value = follows_so R R lender.ghost_name none (λ _ _. ⊤) (λ last. last ≡ value)
