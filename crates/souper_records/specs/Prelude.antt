-- What the files of this crate cite of the crates below.
pub use Rattle.serde_json.specs.Written.{compact_text}
pub use Rattle.souper_watched.specs.Streams.{Stream, IsGiven, IsGivenNothing, stream}
pub use Rattle.souper_watched.specs.Watching.{has_failed}
pub use Rattle.souper_errors.specs.Errors.{kind_of, at_end_of}
pub use Rattle.souper_errors.specs.declared.error.ParseError.{ParseError}
pub use Rattle.souper_graph.specs.Renaming.{renamed}
pub use Rattle.souper_graph.specs.Syntax.Spelling.{ItemType, TextSpells}
pub use Rattle.souper_graph.specs.Text.{text_of}
pub use Rattle.souper_graph.specs.Values.{Item}
pub use Rattle.souper_graph.specs.WellFormed.{WellFormed}
pub use Rattle.souper_ir.specs.Answers.{IsStrError}
pub use Rattle.souper_stream.specs.Reading.{AreAll}
pub use Rattle.souper_stream.specs.Segments.{Line, concat, all_lines}
pub use Rattle.souper_stream.specs.declared.starts.Start.{Start}
