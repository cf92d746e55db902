-- `writing::write_stream` meets its contract: the stream has room at the front. Assumes nothing.
use Rattle.storing.proofs.Laws.{stored_front}
use Rattle.writing.proofs.write_stream.Goals as goal

pub returns : goal.returns
returns c = stored_front c.put_stream.ensures c.requires.1
