use Rattle.plan_compare.proofs.SlotLists.{one_filled}
use Rattle.plan_compare.proofs.slots.fill_slot.Goals as goal

pub returns-then-solved-slots : goal.returns-then-solved-slots
returns-then-solved-slots c m plans is are = one_filled m plans c.args.slots.now c.args.solved is are
