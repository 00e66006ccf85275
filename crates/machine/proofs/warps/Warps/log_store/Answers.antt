-- An open warp does not wait.
use Rattle.machine.proofs.SoundQueue.{open_row}
use Rattle.machine.proofs.warps.Warps.log_store.Goals as goal

pub set_log-requires : goal.set_log-requires
set_log-requires c = (open_row c.args.self.now c.args.warp c.requires.open).free
