use Rattle.std.proofs.Common.{rules, ◌≡◌}
use Rattle.souper_errors.specs.Errors.{kind_of}
use Rattle.souper_errors.specs.declared.error.ParseErrorKind.TheVariants.{Parse}
use Rattle.souper_ir.specs.Kinds.{item_type_of}
use Rattle.souper_calls.proofs.Failures.{offset_within, spells_none}
use Rattle.souper_calls.proofs.hints.hint_for.Goals as goal

pub text_of_hint-requires : goal.text_of_hint-requires
text_of_hint-requires c =
    let kind : kind_of c.in-Err.error ≡ Parse = search rules in
    offset_within (item_type_of c.args.kind) c.args.source.now c.in-Err.error c.in-Err.ensures.refused kind

pub returns-clause-rejected : goal.returns-clause-rejected
returns-clause-rejected c =
    let kind : kind_of c.in-Err.error ≡ Parse = search rules in
    spells_none (item_type_of c.args.kind) c.args.source.now c.in-Err.error c.in-Err.ensures.refused kind
