-- A failure of a writer.
use Rattle.std.proofs.Common.{◌≡◌, refl}
use Rattle.text_io.specs.declared.error.DeviceFault.{DeviceFault}
use Rattle.text_io.specs.declared.error.RunError.{RunError}
use Rattle.text_io.specs.declared.error.RunError.TheVariants.{ReadFailed, TooManyReads, WriteFailed, Network, UsersUnread, NoRandomBytes, Memory, TooFewDescriptors, Unfinished, Line, UsersLine}
use Rattle.text_io.specs.Status.{IsOfWriting}

-- it has one name
pub write_failed : (error : RunError) → IsOfWriting error → (fault : DeviceFault) × (error ≡ WriteFailed fault)
write_failed ReadFailed is = absurd is
write_failed TooManyReads is = absurd is
write_failed (WriteFailed fault) is = (fault, refl)
write_failed (Network fault) is = absurd is
write_failed UsersUnread is = absurd is
write_failed NoRandomBytes is = absurd is
write_failed Memory is = absurd is
write_failed TooFewDescriptors is = absurd is
write_failed Unfinished is = absurd is
write_failed (Line number) is = absurd is
write_failed (UsersLine number) is = absurd is
