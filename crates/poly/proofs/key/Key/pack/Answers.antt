-- `poly::key::Key::pack` meets its contract: the four fields do not overlap, so their `|` is their sum.
use Rattle.poly.proofs.key.Fields.{keyed}
use Rattle.poly.proofs.key.Key.pack.Goals as goal

pub returns : goal.returns
returns c = keyed c.args.x c.args.y c.args.z c.args.w c.requires
