-- What is done for words for which clap found no request.
use Rattle.std.proofs.Common.{◌≡◌, ◌⊎◌, inl, inr, ℕ, List, Result, Ok, Err, IfOk, IfErr, subst, sym}
use Rattle.clap.specs.declared.error.kind.ErrorKind.{ErrorKind}
use Rattle.clap.specs.declared.error.kind.ErrorKind.TheVariants as kinds
use Rattle.text_io.specs.declared.error.RunError.{RunError}
use Rattle.text_io.specs.declared.error.RunError.TheVariants.{Memory}
use Rattle.arguments.specs.CommandLine.{SpellNoRequest}
use Rattle.program.specs.declared.asking.Asked.{Asked}
use Rattle.program.specs.declared.asking.Asked.TheVariants.{Run, Show, Refuse}
use Rattle.program.specs.Asking.{Asks, IsAnswerTo, IsAskedBy}

pub answered : (words : List (List ℕ)) (kind : ErrorKind) (asked : Asked) → (kind ≡ kinds.OutOfMemory) ⊎ SpellNoRequest words kind → IsAnswerTo kind asked → IsAskedBy words asked
answered words kind (Run request) spells answers = absurd answers
answered words kind (Show text) (inl none) (inl help) = absurd cc
answered words kind (Show text) (inl none) (inr version) = absurd cc
answered words kind (Show text) (inr spells) (inl help) = inl (subst (SpellNoRequest words) help spells)
answered words kind (Show text) (inr spells) (inr version) = inr (subst (SpellNoRequest words) version spells)
answered words kind (Refuse text) (inl none) answers = absurd (answers.2 none)
answered words kind (Refuse text) (inr spells) answers = (kind, spells, answers.0, answers.1)

-- so it is where there was memory for the answer
found : {W : Type 0} (Error : Type 0) (texts : W → List (List ℕ)) (words : W) (kind : ErrorKind) (result : Result Asked RunError) → (kind ≡ kinds.OutOfMemory) ⊎ SpellNoRequest (texts words) kind
    → IfOk result (IsAnswerTo kind) → IfErr result (λ error. error ≡ Memory) → Asks {Words = W} {Error = Error} (Ok words) texts result
found Error texts words kind (Ok asked) spells is lacks = answered (texts words) kind asked spells is
found Error texts words kind (Err error) spells is lacks = lacks

pub answers : {W Error : Type 0} (had : Result W Error) (texts : W → List (List ℕ)) (words : W) (kind : ErrorKind) (result : Result Asked RunError) → had ≡ Ok words
    → (kind ≡ kinds.OutOfMemory) ⊎ SpellNoRequest (texts words) kind → IfOk result (IsAnswerTo kind) → IfErr result (λ error. error ≡ Memory) → Asks had texts result
answers {Error = Error} had texts words kind result is spells answered_so lacks =
    subst (λ some. Asks some texts result) (sym is) (found Error texts words kind result spells answered_so lacks)
