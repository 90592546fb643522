use Rattle.std.proofs.Common.{◌≡◌, false, sym, subst}
use Rattle.serde_json.specs.Data.{Data}
use Rattle.serde_json.specs.Written.{has_float}
use Rattle.souper_typing.specs.Objects.{view_row}
use Rattle.souper_typing.proofs.Floats.{row_whole}
use Rattle.souper_typing.proofs.objects.TypedRowShown.append_lines.Goals as goal

pub append_line-requires : goal.append_line-requires
append_line-requires c = subst (λ (d : Data). has_float d ≡ false) (sym c.in_ok-object.ensures) (row_whole c.args.name.now c.args.start (view_row c.args.self.now))
