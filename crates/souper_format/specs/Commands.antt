-- Definitions. The commands, as words.
use Rattle.std.specs.Prelude.{ℕ, List, [], ◌∷◌, Option, None, Some, if◌then◌else◌, codes, bytes_eq, string_bytes, String, option_map}
use Rattle.std.specs.declared.alloc.Global.{Global}
use Rattle.souper_errors.specs.Kinds.{kind_of_word}
use Rattle.souper_format.specs.declared.command.Command.{Command}
use Rattle.souper_format.specs.declared.command.Command.TheVariants.{Format, Same}

-- one word is a kind; four are `same`, a kind and two paths
abbrev pub command_of : List (String Global) → Option Command
command_of (kind ∷ []) = option_map Format (kind_of_word (string_bytes kind))
command_of (word ∷ kind ∷ first ∷ second ∷ []) =
    if bytes_eq (string_bytes word) (codes "same") then option_map (λ k. Same k first second) (kind_of_word (string_bytes kind)) else None
command_of _ = None
