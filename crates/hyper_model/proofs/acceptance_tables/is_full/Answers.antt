use Rattle.hyper_model.proofs.acceptance_tables.is_full.Goals as goal

pub returns-then-are_units : goal.returns-then-are_units
returns-then-are_units c = (
  λ e. record { within = c.are_units.ensures.0 c.if-are_units.true; once = c.stands_each_once.ensures.0 e },
  λ h. c.stands_each_once.ensures.1 h.once,
)
