-- The lines written for a list of items, and for a parse error.
use lib.ListN.{length-map}
use Rattle.std.proofs.Common.{◌≡◌, ◌≤◌, ℕ, List, [], ◌∷◌, ◌++◌, map, length, codes, decimal, Option, Some, unwrap_or, inl, inr, refl, ap, sym, ◌∙◌, subst}
use Rattle.std.specs.Prelude.{Result, Ok, Err, IfOk, IfSome}
use Rattle.std.specs.Fmt.{◌++?◌}
use Rattle.std.specs.String.{string_bytes}
use Rattle.std.specs.declared.alloc.Global.{Global}
use Rattle.std.specs.declared.string.String.{String}
use Rattle.souper_graph.specs.declared.ast.items.LeftHandSide.{LeftHandSide}
use Rattle.souper_graph.specs.View.{view_left_hand_side}
use Rattle.souper_graph.specs.Syntax.Spelling.{TextSpells, SpellsNone, left_hand_side}
use Rattle.souper_errors.specs.declared.error.ParseError.{ParseError}
use Rattle.souper_errors.specs.declared.error.ParseErrorKind.{ParseErrorKind}
use Rattle.souper_errors.specs.declared.error.ParseErrorKind.TheVariants.{Parse}
use Rattle.souper_ir.specs.Answers.{IsStrError}
use Rattle.souper_errors.specs.Errors.{kind_of, offset_of, shown_error, HasLocation, ShowsPlace, OnKind}
use Rattle.souper_errors.specs.Places.{IsRefusalText, shown_refusal}
use Rattle.examples_using.specs.Reports.{IsReport}

pub of_count : {E : Type 0} (source : List ℕ) (items : List LeftHandSide) (n : ℕ) (r : Result (String Global) E)
    → TextSpells left_hand_side source (map view_left_hand_side items) → n ≡ length items
    → IfOk r (λ s. string_bytes s ≡ codes "left-hand sides: " ++ decimal n) → IfOk r (λ s. IsReport source (string_bytes s))
of_count source items n (Ok s) spells is written =
    inl (map view_left_hand_side items, spells, written ∙ ap (λ (k : ℕ). codes "left-hand sides: " ++ decimal k) (is ∙ sym (length-map items view_left_hand_side)))
of_count source items n (Err e) spells is written = tt

-- a parse error of the text at some offset, as the error has it
abbrev pub IsRefused : List ℕ → ParseError → Type 0
IsRefused source e = (offset : ℕ) × (offset_of e ≡ Some offset) × (offset ≤ length source) × SpellsNone left_hand_side source
    × ShowsPlace (Some (codes "input.souper")) source offset e × HasLocation source e

-- the bytes that are written for an offset and an error
abbrev refusal_line : ℕ → Option (List ℕ) → Option (List ℕ)
refusal_line offset shown = Some (codes "refused at byte ") ++? (Some (decimal offset) ++? (Some (10 ∷ []) ++? shown))

of_refused : {E : Type 0} (source : List ℕ) (e : ParseError) (offset : ℕ) (r : Result (String Global) E)
    → IsRefused source e → Some offset ≡ offset_of e
    → IfOk r (λ s. IfSome (refusal_line offset (shown_error e)) (λ bs. string_bytes s ≡ bs)) → IfOk r (λ s. IsReport source (string_bytes s))
of_refused source e offset (Ok s) (at, is_at, within, nothing, p, located) is written =
    let text : List ℕ = shown_refusal (codes "input.souper") p.line p.column p.text p.message in
    let same : at ≡ offset = ap (λ (o : Option ℕ). unwrap_or o 0) (sym is_at ∙ sym is) in
    inr (
      nothing,
      (
        offset,
        text,
        subst (λ (n : ℕ). IsRefusalText (Some (codes "input.souper")) source n text) same (p.line, p.column, (p.message, p.text, p.is_place, refl)),
        subst (λ (o : Option (List ℕ)). IfSome (refusal_line offset o) (λ bs. string_bytes s ≡ bs)) p.shown_is written,
      ),
    )
of_refused source e offset (Err x) refused is written = tt

pub of_refusal : {E : Type 0} (source : List ℕ) (e : ParseError) (offset : ℕ) (r : Result (String Global) E)
    → IsStrError left_hand_side (Some (codes "input.souper")) source e → kind_of e ≡ Parse → Some offset ≡ offset_of e
    → IfOk r (λ s. IfSome (refusal_line offset (shown_error e)) (λ bs. string_bytes s ≡ bs)) → IfOk r (λ s. IsReport source (string_bytes s))
of_refusal source e offset r error is_parse = of_refused source e offset r
    (subst (λ (k : ParseErrorKind). OnKind k ⊥ (IsRefused source e) (Unit {0})) is_parse error)
