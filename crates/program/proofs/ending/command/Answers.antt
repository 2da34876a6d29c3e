-- A command did what its clauses say, in each of the four cases.
use Rattle.std.proofs.Common.{◌≡◌, Err, subst, sym}
use Rattle.drive.specs.Scripts.{script_of}
use Rattle.drive.specs.Transcripts.{IsDriveOutput}
use Rattle.solo_output.specs.Output.{IsOutputFor}
use Rattle.solo_output.specs.Streams.{stream_of}
use Rattle.program.specs.Ending.{Did}
use Rattle.program.specs.Hashing.{IsUserOutput, password_in}
use Rattle.program.proofs.Commands.{wrote}
use Rattle.program.proofs.ending.command.Goals as goal

pub returns-in-Solo-clause-did : goal.returns-in-Solo-clause-did
returns-in-Solo-clause-did g c =
    let input = g.R.Read.remaining c.args.reader.now in
    let left = g.R.Read.remaining c.solo.new.reader in
    let old = g.W.Write.contents c.args.output.now in
    let new = g.W.Write.contents c.solo.new.writer in
    subst (λ request. Did request c.solo.result input left old new) (sym c.in-Solo.is)
    (wrote (λ given. IsOutputFor c.in-Solo.setup given) (λ given line. stream_of given ≡ Err line) input c.solo.result old new c.solo.ensures.ended c.solo.ensures.bad_line c.solo.ensures.begun c.solo.ensures.kept)

pub returns-in-Drive-clause-did : goal.returns-in-Drive-clause-did
returns-in-Drive-clause-did g c =
    let input = g.R.Read.remaining c.args.reader.now in
    let left = g.R.Read.remaining c.drive_lines.new.reader in
    let old = g.W.Write.contents c.args.output.now in
    let new = g.W.Write.contents c.drive_lines.new.writer in
    subst (λ request. Did request c.drive_lines.result input left old new) (sym c.in-Drive.is)
    (wrote (λ given. IsDriveOutput c.in-Drive.setup given) (λ given line. script_of given ≡ Err line) input c.drive_lines.result old new c.drive_lines.ensures.ended c.drive_lines.ensures.bad_line c.drive_lines.ensures.begun c.drive_lines.ensures.kept)

pub returns-in-Serve-clause-did : goal.returns-in-Serve-clause-did
returns-in-Serve-clause-did g c =
    let input = g.R.Read.remaining c.args.reader.now in
    let left = g.R.Read.remaining c.serve.new.reader in
    let old = g.W.Write.contents c.args.output.now in
    let new = g.W.Write.contents c.serve.new.output in
    subst (λ request. Did request c.serve.result input left old new) (sym c.in-Serve.is)
    (record { written = c.serve.ensures.written; read = c.serve.ensures.read })

pub returns-in-HashPassword-clause-did : goal.returns-in-HashPassword-clause-did
returns-in-HashPassword-clause-did g c =
    let input = g.R.Read.remaining c.args.reader.now in
    let left = g.R.Read.remaining c.hash_password.new.reader in
    let old = g.W.Write.contents c.args.output.now in
    let new = g.W.Write.contents c.hash_password.new.writer in
    subst (λ request. Did request c.hash_password.result input left old new) (sym c.in-HashPassword.is)
    (wrote (λ given. IsUserOutput c.in-HashPassword.password given) (λ given line. password_in given ≡ Err line) input c.hash_password.result old new c.hash_password.ensures.ended c.hash_password.ensures.bad_line c.hash_password.ensures.begun c.hash_password.ensures.kept)
