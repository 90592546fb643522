-- What the proofs of this crate cite of the crates below.
pub use Rattle.memchr.specs.Find.{Nowhere, OccursAt, Passes, is_byte}
pub use Rattle.souper_errors.proofs.Shown.Lines.{newlines-append}
pub use Rattle.souper_errors.specs.declared.error.ParseErrorKind.TheVariants.{Io, Parse, Memory as MemoryKind}
pub use Rattle.souper_graph.proofs.Judging.Closed.{All-both}
pub use Rattle.souper_lexer.proofs.TokenLaws.{tokens_law, begins_length, begins_append, text_tokens, one_reading}
pub use Rattle.souper_ir.proofs.Items.Joining.{begins_more, begins_moved, begins_later, left_of_lines, gap_of_lines, kinds_moved, list_append, lines_end, no_lines_end, parted_twice, items_join, Within, Beyond}
pub use Rattle.souper_ir.proofs.Items.Parting.{tokens_part}
pub use Rattle.souper_ir.specs.declared.parse.memory.Memory.{Memory}
pub use Rattle.souper_ir.specs.Laws.Steps.{kinds-append}
pub use Rattle.souper_stream.specs.Prelude.{kinds, ItemType, TextSpells, SpellsNone, IsOneLine, Lexeme, spelling, Begins, ident, IsGap, IsTextOf, val_name, equals, comma, Item, WellFormed, lexed_of, IsStrError, Before, ParseError, kind_of, HasLocation, HasLocationAfter, IsPlacedAfter, IsRefusalAt, IsLocatedAfter, IsLines, moved, is_name, EndsIn, newlines, IsLineText, IsPlace, PrefixSpells, TakesOver, TakesPrefix, StartsAt, SpellEachFrom, TextSpellsFrom, PrefixSpellsFrom, TakesFrom, HasStarts, starts_of, TextStops, at_end_of}
