-- What the files of this crate cite of the crates below.
pub use Rattle.souper_errors.specs.Errors.{kind_of, HasLocation, HasLocationAfter, IsPlacedAfter, IsRefusalAt, IsLocatedAfter, IsSizeOf, offset_of, at_end_of}
pub use Rattle.souper_errors.specs.Places.{EndsIn, IsLines, newlines, IsLineText, IsPlace}
pub use Rattle.souper_errors.specs.declared.error.Before.{Before}
pub use Rattle.souper_errors.specs.declared.error.ParseError.{ParseError}
pub use Rattle.souper_graph.specs.Syntax.Spelling.{kinds, ItemType, TextSpells, left_hand_side, right_hand_side, replacement, SpellsNone}
pub use Rattle.souper_graph.specs.Syntax.Tokens.{IsOneLine, Lexeme, spelling, Begins, ident, IsGap, IsTextOf, val_name, equals, comma, colon}
pub use Rattle.souper_graph.specs.Values.{Item}
pub use Rattle.souper_graph.specs.WellFormed.{WellFormed}
pub use Rattle.souper_lexer.specs.TokenReading.{lexed_of}
pub use Rattle.souper_ir.specs.Answers.{IsStrError}
pub use Rattle.souper_ir.specs.Joining.{moved}
pub use Rattle.souper_ir.specs.NodeReadings.{is_name}
pub use Rattle.souper_ir.specs.Sinks.{PrefixSpells, TakesOver, TakesPrefix, TakesText}
pub use Rattle.souper_ir.specs.Starts.{StartsAt, SpellEachFrom, TextSpellsFrom, PrefixSpellsFrom, TakesFrom, HasStarts, starts_of}
pub use Rattle.souper_ir.specs.Stopping.{TextStops}
