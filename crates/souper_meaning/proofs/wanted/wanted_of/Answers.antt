use Rattle.std.proofs.Common.{List, map, sym, subst}
use Rattle.std.specs.List.{AllByRecursion}
use Rattle.souper_graph.specs.declared.ast.attributes.RootAttribute.{RootAttribute}
use Rattle.souper_graph.specs.declared.ast.parts.Ending.{Ending}
use Rattle.souper_graph.specs.View.{view_root_attribute}
use Rattle.souper_graph.specs.PartsView.{view_ending, view_parts}
use Rattle.souper_widths.specs.View.{view_widths}
use Rattle.souper_widths.specs.Limits.{HasRootBitCount}
use Rattle.souper_meaning.specs.Trying.{root_attributes}
use Rattle.souper_meaning.proofs.Roots.{root_least}
use Rattle.souper_meaning.proofs.WantedBits.{root_counts}
use Rattle.souper_meaning.proofs.wanted.wanted_of.Goals as goal

pub wanted_bits_of-requires-clause-low : goal.wanted_bits_of-requires-clause-low
wanted_bits_of-requires-clause-low c = root_least (view_parts c.args.parts.now) (view_widths c.args.plan.now.widths) c.requires.typed

pub wanted_bits_of-requires-clause-bit_counts : goal.wanted_bits_of-requires-clause-bit_counts
wanted_bits_of-requires-clause-bit_counts c =
    subst (λ (xs : List RootAttribute). AllByRecursion (HasRootBitCount c.args.plan.now.widths.root) (map view_root_attribute xs)) (sym c.deref.ensures.value)
    (subst (λ (e : Ending). AllByRecursion (HasRootBitCount c.args.plan.now.widths.root) (root_attributes (view_ending e))) c.in-Infer.is (root_counts (view_parts c.args.parts.now) (view_widths c.args.plan.now.widths) c.requires.typed))

pub mask_of-requires-clause-low : goal.mask_of-requires-clause-low
mask_of-requires-clause-low c = root_least (view_parts c.args.parts.now) (view_widths c.args.plan.now.widths) c.requires.typed

pub wanted_bits_of-requires-in-Replaced-clause-low : goal.wanted_bits_of-requires-in-Replaced-clause-low
wanted_bits_of-requires-in-Replaced-clause-low c = root_least (view_parts c.args.parts.now) (view_widths c.args.plan.now.widths) c.requires.typed

pub wanted_bits_of-requires-in-Replaced-clause-bit_counts : goal.wanted_bits_of-requires-in-Replaced-clause-bit_counts
wanted_bits_of-requires-in-Replaced-clause-bit_counts c =
    subst (λ (xs : List RootAttribute). AllByRecursion (HasRootBitCount c.args.plan.now.widths.root) (map view_root_attribute xs)) (sym c.deref-in-Replaced.ensures.value)
    (subst (λ (e : Ending). AllByRecursion (HasRootBitCount c.args.plan.now.widths.root) (root_attributes (view_ending e))) c.in-Replaced.is (root_counts (view_parts c.args.parts.now) (view_widths c.args.plan.now.widths) c.requires.typed))

pub wanted_bits_of-requires-in-Cand-clause-low : goal.wanted_bits_of-requires-in-Cand-clause-low
wanted_bits_of-requires-in-Cand-clause-low c = root_least (view_parts c.args.parts.now) (view_widths c.args.plan.now.widths) c.requires.typed

pub wanted_bits_of-requires-in-Cand-clause-bit_counts : goal.wanted_bits_of-requires-in-Cand-clause-bit_counts
wanted_bits_of-requires-in-Cand-clause-bit_counts c =
    subst (λ (xs : List RootAttribute). AllByRecursion (HasRootBitCount c.args.plan.now.widths.root) (map view_root_attribute xs)) (sym c.deref-in-Cand.ensures.value)
    (subst (λ (e : Ending). AllByRecursion (HasRootBitCount c.args.plan.now.widths.root) (root_attributes (view_ending e))) c.in-Cand.is (root_counts (view_parts c.args.parts.now) (view_widths c.args.plan.now.widths) c.requires.typed))
