-- The status that a program ends with where a run does not end, and what it says then (profile).
use Rattle.std.specs.Prelude.{ℕ, codes, List, ◌++◌}
use Rattle.std.specs.Fmt.{decimal}
use Rattle.text_io.specs.declared.error.RunError.{RunError}
use Rattle.text_io.specs.declared.error.RunError.TheVariants.{ReadFailed, TooManyReads, WriteFailed, Network, UsersUnread, NoRandomBytes, Memory, TooFewDescriptors, Unfinished, Line, UsersLine}
use Rattle.text_io.specs.Faults.{device_line}

-- 3 where the reader, the writer, the network or the users' file failed, the input had no end, or the system gave no random bytes; 4 for lack of memory or of descriptors for the workers, or where the end of a group is not known; 5 for a
-- line of the input that the program does not take, or one of the users' file that is no user's
abbrev pub status_of : RunError → ℕ
status_of ReadFailed = 3
status_of TooManyReads = 3
status_of (WriteFailed fault) = 3
status_of (Network fault) = 3
status_of UsersUnread = 3
status_of NoRandomBytes = 3
status_of Memory = 4
status_of TooFewDescriptors = 4
status_of Unfinished = 4
status_of (Line number) = 5
status_of (UsersLine number) = 5

-- the line that is said of an error
abbrev pub error_line : RunError → List ℕ
error_line ReadFailed = codes "device\n"
error_line TooManyReads = codes "device\n"
error_line (WriteFailed fault) = device_line fault
error_line (Network fault) = device_line fault
error_line UsersUnread = codes "device: the users file cannot be read\n"
error_line NoRandomBytes = codes "device: no random bytes\n"
error_line Memory = codes "memory\n"
error_line TooFewDescriptors = codes "memory: too few file descriptors\n"
error_line Unfinished = codes "unfinished\n"
error_line (Line number) = codes "input line " ++ decimal number ++ codes "\n"
error_line (UsersLine number) = codes "users line " ++ decimal number ++ codes "\n"

-- an error of reading: nothing was looked at, and nothing written
abbrev pub IsOfReading : RunError → Type 0
IsOfReading ReadFailed = Unit {0}
IsOfReading TooManyReads = Unit {0}
IsOfReading (WriteFailed fault) = ⊥
IsOfReading (Network fault) = ⊥
IsOfReading UsersUnread = ⊥
IsOfReading NoRandomBytes = ⊥
IsOfReading Memory = Unit {0}
IsOfReading TooFewDescriptors = ⊥
IsOfReading Unfinished = ⊥
IsOfReading (Line number) = ⊥
IsOfReading (UsersLine number) = ⊥

-- the writer failed
abbrev pub IsOfWriting : RunError → Type 0
IsOfWriting ReadFailed = ⊥
IsOfWriting TooManyReads = ⊥
IsOfWriting (WriteFailed fault) = Unit {0}
IsOfWriting (Network fault) = ⊥
IsOfWriting UsersUnread = ⊥
IsOfWriting NoRandomBytes = ⊥
IsOfWriting Memory = ⊥
IsOfWriting TooFewDescriptors = ⊥
IsOfWriting Unfinished = ⊥
IsOfWriting (Line number) = ⊥
IsOfWriting (UsersLine number) = ⊥
