-- What the proofs of this crate cite of the crates below.
pub use Rattle.indexmap.specs.IndexMap.{keys, index_map_len}
pub use Rattle.souper_watched.specs.Streams.{Stream, stream, IsGiven, IsGivenNothing}
pub use Rattle.souper_watched.specs.Watching.{has_failed, watched_inner}
pub use Rattle.souper_watched.specs.declared.Watched.{Watched}
pub use Rattle.souper_errors.specs.Errors.{kind_of}
pub use Rattle.souper_errors.specs.declared.error.ParseError.{ParseError}
pub use Rattle.souper_errors.specs.declared.error.ParseErrorKind.TheVariants.{Io, Parse}
pub use Rattle.souper_graph.proofs.Judging.Closed.{All-both}
pub use Rattle.souper_graph.specs.Syntax.Spelling.{ItemType, TextSpells}
pub use Rattle.souper_graph.specs.Text.{texts_of}
pub use Rattle.souper_graph.specs.Values.{Item}
pub use Rattle.souper_stream.specs.Parts.{keeps_starts}
pub use Rattle.souper_stream.specs.Segments.{concat, all_lines, Line}
pub use Rattle.souper_stream.specs.declared.starts.Start.{Start}
