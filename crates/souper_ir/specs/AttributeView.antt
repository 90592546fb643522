-- Definitions. What the code's kinds of attributes are seen as.
use Rattle.souper_ir.specs.declared.parse.attributes.Kind.{Kind}
use Rattle.souper_ir.specs.declared.parse.attributes.Kind.TheVariants.{KnownBits, PowerOfTwo, Negative, NonNegative, NonZero, HasExternalUses, SignBits, Range}
use Rattle.souper_graph.specs.Values.{power_of_two, negative, non_negative, non_zero, has_external_uses}
use Rattle.souper_ir.specs.NodeReadings.{AttributeKind, plain_kind, bits_kind, sign_bits_kind, range_kind}

abbrev pub view_kind : Kind → AttributeKind
view_kind (KnownBits pattern) = bits_kind pattern.now
view_kind PowerOfTwo = plain_kind power_of_two
view_kind Negative = plain_kind negative
view_kind NonNegative = plain_kind non_negative
view_kind NonZero = plain_kind non_zero
view_kind HasExternalUses = plain_kind has_external_uses
view_kind SignBits = sign_bits_kind
view_kind Range = range_kind
