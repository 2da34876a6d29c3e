-- No packet is too long to be written.
use Rattle.local_server.proofs.Light.{writable}
use Rattle.local_server.proofs.Transcripts.{shortness}
use Rattle.local_server.proofs.laws.size_law.Goals as goal

pub returns-clause-short : goal.returns-clause-short
returns-clause-short c setup events outputs first last new all = shortness setup events outputs first last new all

pub returns-clause-writable : goal.returns-clause-writable
returns-clause-writable c setup events outputs first last new all = writable outputs (shortness setup events outputs first last new all)
