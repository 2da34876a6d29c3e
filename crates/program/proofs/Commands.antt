-- What a command wrote that runs on its input alone, by how it ended.
use Rattle.std.proofs.Common.{◌≡◌, ℕ, List, Option, Some, None, Result, Ok, Err, IfSome, IfErr, OnOk, refl}
use Rattle.std.specs.Io.KnownBytes.{Keeps}
use Rattle.text_io.specs.declared.error.DeviceFault.{DeviceFault}
use Rattle.text_io.specs.declared.error.RunError.{RunError}
use Rattle.text_io.specs.declared.error.RunError.TheVariants.{ReadFailed, TooManyReads, WriteFailed, Network, UsersUnread, NoRandomBytes, Memory, TooFewDescriptors, Unfinished, Line, UsersLine}
use Rattle.text_io.specs.Status.{IsOfWriting}
use Rattle.drive.specs.Transcripts.{Writes, BeginsTo}
use Rattle.program.specs.Ending.{Wrote}

module _ (IsOutput : List ℕ → List ℕ → Type 0) (IsBadLine : List ℕ → ℕ → Type 0) where
  pub wrote : (known : Option (List ℕ)) (ended : Result (Unit {0}) RunError) (old new : Option (List ℕ))
      → OnOk ended (IfSome known (λ input. Writes (IsOutput input) old new))
      → ((line : ℕ) → ended ≡ Err (Line line) → IfSome known (λ input. IsBadLine input line))
      → ((fault : DeviceFault) → ended ≡ Err (WriteFailed fault) → IfSome known (λ input. BeginsTo (IsOutput input) old new))
      → IfErr ended (λ error. ¬ IsOfWriting error → Keeps old new)
      → IfSome known (λ input. Wrote (IsOutput input) (IsBadLine input) ended old new)
  wrote None ended old new whole bad begun kept = tt
  wrote (Some input) (Ok done) old new whole bad begun kept = whole
  wrote (Some input) (Err ReadFailed) old new whole bad begun kept = kept (λ of. of)
  wrote (Some input) (Err TooManyReads) old new whole bad begun kept = kept (λ of. of)
  wrote (Some input) (Err (WriteFailed fault)) old new whole bad begun kept = begun fault refl
  wrote (Some input) (Err (Network fault)) old new whole bad begun kept = kept (λ of. of)
  wrote (Some input) (Err UsersUnread) old new whole bad begun kept = kept (λ of. of)
  wrote (Some input) (Err NoRandomBytes) old new whole bad begun kept = kept (λ of. of)
  wrote (Some input) (Err (UsersLine number)) old new whole bad begun kept = kept (λ of. of)
  wrote (Some input) (Err TooFewDescriptors) old new whole bad begun kept = kept (λ of. of)
  wrote (Some input) (Err Unfinished) old new whole bad begun kept = kept (λ of. of)
  wrote (Some input) (Err Memory) old new whole bad begun kept = kept (λ of. of)
  wrote (Some input) (Err (Line number)) old new whole bad begun kept = (bad number refl, kept (λ of. of))
