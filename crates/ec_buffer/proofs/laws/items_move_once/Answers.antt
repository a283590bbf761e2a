use Rattle.ec_buffer.proofs.InTime.{put_once, got_once}
use Rattle.ec_buffer.proofs.laws.items_move_once.Goals as goal

pub returns : goal.returns
returns c = record { put = put_once; got = got_once }
