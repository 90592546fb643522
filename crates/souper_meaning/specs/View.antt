-- Definitions. A world and a mode that the code has, as plain data.
use Rattle.souper_meaning.specs.declared.worlds.World.{World as ByVectors}
use Rattle.souper_meaning.specs.declared.worlds.Mode.{Mode as ModeNode}
use Rattle.souper_meaning.specs.declared.worlds.Mode.TheVariants.{ValueInputs, PoisonInputs}
use Rattle.souper_meaning.specs.Worlds.{World, Mode, value_inputs, poison_inputs}

abbrev pub view_world : ByVectors → World
view_world w = record { values = w.values.items; predecessors = w.predecessors.items; choices = w.choices.items }

abbrev pub view_mode : ModeNode → Mode
view_mode ValueInputs = value_inputs
view_mode PoisonInputs = poison_inputs
