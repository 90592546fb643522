use Rattle.std.proofs.Common.{◌≡◌, ◌+◌, ◌-◌, ◌<◌, ◌≤◌, inl, List, ℕ, ◌++◌, length, take, drop, refl, sym, ap, ◌∙◌, subst, arith, append_assoc, length-append, ◌==◌, take-add, take-take, length-take, length-drop, drop-drop}
use Rattle.std.proofs.lemmas.List.{drop-take}
use Rattle.std.proofs.lemmas.List.Sums.{count_by-le-length}
use Rattle.souper_stream.proofs.Prelude.{newlines-append, IsOneLine, IsLines, newlines}
use Rattle.souper_stream.specs.Buffering.{window, unparsed}
use Rattle.souper_stream.specs.Segments.{IsLastLineAt}
use Rattle.souper_stream.proofs.LineLists.{lines_append}
use Rattle.souper_stream.proofs.buffer.Buffer.pass.Goals as goal

pub returns : goal.returns
returns c =
    let old = c.args.self.now in
    let len = c.args.len in
    let bytes = old.bytes.items in
    let all : List ℕ = window old in
    let end : ℕ = old.parsed + len in
    let line : ℕ = c.last_line_start-line.result in
    let front : List ℕ = take line all in
    let left : ℕ = end - line in
    let fits : end ≤ length all = omega (arith, c.requires.within, old.bytes.ok, length-drop old.start bytes) in
    let at : IsLastLineAt (take end all) line = subst (λ (x : List ℕ). IsLastLineAt x line) c.window-lines.ensures c.last_line_start-line.ensures in
    let long : length (take end all) ≡ end = omega (arith, length-take end all) in
    let before : line < end = omega (arith, at.before) in
    let front_is : take line (take end all) ≡ front = take-take line end all (omega arith) in
    let lines : IsLines front = subst (λ (x : List ℕ). IsLines x) front_is at.lines in
    let held_is : drop (old.start + line) bytes ≡ drop line all = sym (drop-drop line old.start bytes) in
    let both : take end all ≡ front ++ take left (drop (old.start + line) bytes) = ap (λ (n : ℕ). take n all) (let n : end ≡ line + left = omega arith in n) ∙ take-add line left all ∙ ap (λ (x : List ℕ). front ++ take left x) (sym held_is) in
    let last : drop line (take (length (take end all) - 1) (take end all)) ≡ take (left - 1) (drop (old.start + line) bytes) =
    ap (drop line) (take-take (length (take end all) - 1) end all (omega arith) ∙ ap (λ (n : ℕ). take n all) (let n : length (take end all) - 1 ≡ line + (left - 1) = omega arith in n)) ∙ drop-take line (left - 1) all ∙ ap (take (left - 1)) (sym held_is) in
    let begin : old.start + line + left - len ≡ old.start + old.parsed = omega arith in
    let left_is : drop left (drop (old.start + line) bytes) ≡ drop len (unparsed old) = ap (drop left) held_is ∙ drop-drop left line all ∙ ap (λ (n : ℕ). drop n all) (let n : line + left ≡ old.parsed + len = omega arith in n) ∙ sym (drop-drop len old.parsed all) in
    record {
      bytes_are = refl;
      left = left_is;
      part = (λ i. take len (drop (begin i) bytes)) ∙ ap (take len) (sym (drop-drop old.parsed old.start bytes));
      buffers = λ done rest p.
          let gone = length-append p.gone front in
          let front_long = length-take line all in
          record {
            gone = p.gone ++ front;
            lines = lines_append p.gone front p.lines lines;
            counted = λ small. let b = p.counted (omega arith) in record {
              lines = lines_append p.gone front p.lines lines;
              bytes_are = omega (arith, b.bytes_are, c.saturating_add-self.ensures);
              lines_are = omega (arith, b.lines_are, c.saturating_add-self-2.ensures, c.newline_count-count.ensures, newlines-append p.gone front, count_by-le-length (λ b. b == 10) (p.gone ++ front), ap newlines front_is, ap (λ (x : List ℕ). newlines (take line x)) c.window-lines.ensures);
            };
            done_is = ap (λ (x : List ℕ). x ++ take len rest) p.done_is ∙ append_assoc p.gone (take old.parsed all) (take len rest)
                ∙ ap (λ (x : List ℕ). p.gone ++ x) (ap (λ (x : List ℕ). take old.parsed all ++ take len x) (sym p.rest_is) ∙ sym (take-add old.parsed len all) ∙ both) ∙ sym (append_assoc p.gone front (take left (drop (old.start + line) bytes)));
            rest_is = left_is ∙ ap (drop len) p.rest_is;
            placed = inl (omega arith);
            one_line = subst (λ (x : List ℕ). IsOneLine x) last at.one_line;
            within = omega (arith, c.requires.within, old.bytes.ok);
            last = omega arith;
          };
    }
