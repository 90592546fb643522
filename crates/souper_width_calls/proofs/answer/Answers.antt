use Rattle.std.proofs.Common.{inl, inr, refl}
use Rattle.souper_widths.specs.View.{view_widths}
use Rattle.souper_width_calls.proofs.answer.Goals as goal

pub returns-in-Ok-write_widths : goal.returns-in-Ok-write_widths
returns-in-Ok-write_widths g c = inl (view_widths c.in-Ok.found, c.in-Ok.ensures.well_formed, c.in-Ok.ensures.typed, c.in-Ok-write_widths.ensures.written)
