-- Definitions. What contracts see of punctuation marks.
use Rattle.souper_ir.specs.declared.parse.tokens.Mark.{Mark}
use Rattle.souper_ir.specs.declared.parse.tokens.Mark.TheVariants.{Comma, Colon, Equals, OpenParen, CloseParen, OpenBracket}
use Rattle.souper_graph.specs.Syntax.Tokens.{Lexeme, comma, colon, equals, open_paren, close_paren, open_bracket}

abbrev pub lexeme_of_mark : Mark → Lexeme
lexeme_of_mark Comma = comma
lexeme_of_mark Colon = colon
lexeme_of_mark Equals = equals
lexeme_of_mark OpenParen = open_paren
lexeme_of_mark CloseParen = close_paren
lexeme_of_mark OpenBracket = open_bracket
