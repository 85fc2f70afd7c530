use Rattle.hyper_model.proofs.Accepting.{has_lists_from, grouped_all}
use Rattle.hyper_model.proofs.acceptance_tables.has_lists.Goals as goal

pub returns-then-has_list_sizes : goal.returns-then-has_list_sizes
returns-then-has_list_sizes c = (
  λ e. has_lists_from c.args.parts.now (c.has_list_sizes.ensures.0 c.if-has_list_sizes.true) (c.are_grouped.ensures.0 e),
  λ h. c.are_grouped.ensures.1 (grouped_all c.args.parts.now h),
)
