-- What a step adds to the transcript of its connection's session.
use Rattle.conn_laws.proofs.Transcripts.{transcribed}
use Rattle.conn_laws.proofs.laws.transcript_law.Goals as goal

pub returns : goal.returns
returns g c number now phase phase' input packets next old new steps sound =
    transcribed g.S.Supply.call g.P.Place.slot_of old new number now phase phase' input packets next steps sound
