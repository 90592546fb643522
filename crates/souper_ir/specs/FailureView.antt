-- Definitions. What a failure of the code is seen as.
use Rattle.souper_ir.specs.declared.parse.parser.Failure.{Failure}
use Rattle.souper_ir.specs.declared.parse.parser.Failure.TheVariants.{Refused, Memory}
use Rattle.souper_ir.specs.Parsing.{Cause, refused, no_memory}

abbrev pub cause_of_failure : Failure → Cause
cause_of_failure (Refused o) = refused o
cause_of_failure Memory = no_memory
