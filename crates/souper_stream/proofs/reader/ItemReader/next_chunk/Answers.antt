use Rattle.std.proofs.Common.{◌≡◌, ◌⊎◌, ◌∙◌, inl, inr, ℕ, List, [], ◌<◌, length, drop, refl, sym, ap, arith, append-nil, subst, Option}
use Rattle.souper_stream.specs.declared.buffer.Buffer.{Buffer}
use Rattle.souper_stream.specs.declared.reader.ItemReader.{ItemReader}
use Rattle.souper_stream.specs.Buffering.{window, unparsed, KeepsWindow}
use Rattle.souper_stream.specs.Parts.{HasParts, buffered, ReadsLast}
use Rattle.souper_stream.specs.Scanning.{HasScan, HasNoneDue}
use Rattle.souper_stream.specs.Segments.{Line, concat, AreLines, CutsAt}
use Rattle.souper_stream.proofs.Prelude.{IsOneLine, ItemType}
use Rattle.souper_stream.proofs.Passing.{same_read, next_cut, next_end, scan_left}
use Rattle.souper_stream.proofs.Buffers.{keeps_more}
use Rattle.souper_stream.proofs.reader.ItemReader.next_chunk.Goals as goal

-- the reader after a look has the same parts
looked_parts : (k : ItemType) (start now : Option (List ℕ)) (ps : List (List Line)) (r q : ItemReader) → q ≡ record r { pending = q.pending; scan = q.scan } → HasParts k start now ps r → (0 < q.pending → (ls : List Line) → unparsed r.buffer ≡ concat ls → AreLines ls → CutsAt k ls q.pending) → HasScan k (drop q.pending (unparsed r.buffer)) q.scan
    → HasParts k start now ps q
looked_parts k start now ps r q only had cuts scanned = subst (λ (x : ItemReader). HasParts k start now ps x) (sym only) (next_cut k start now ps r q.pending q.scan had cuts scanned)

pub loop-turn-init : goal.loop-turn-init
loop-turn-init g c =
    let d = c.drain.ensures in
    record {
      same = refl;
      eager = refl;
      parsed = d.within;
      none = c.requires.none;
      last = d.last;
      kept = record { more = []; bytes_are = d.bytes ∙ sym (append-nil (window c.args.self.now.buffer)) };
      due = λ e. inl refl;
      parts = λ start ps (ls, h). (ls, same_read _ _ _ _ _ _ _ _ _ _ _ _ _ _ d.buffers h h.chunk h.scanned);
    }

pub look-requires-clause-scanned : goal.look-requires-clause-scanned
look-requires-clause-scanned g c =
    let (start, ps, had) = c.requires.had in
    scan_left g.T.Item.item_type start (g.R.Read.remaining c.loop-turn.reader) ps c.loop-turn.self (c.loop-turn.invariant.parts start ps had) c.loop-turn.invariant.none

pub returns-then-self-clause-next : goal.returns-then-self-clause-next
returns-then-self-clause-next g c = λ start ps had.
    rw c.new.ensures (next_end g.T.Item.item_type start (g.R.Read.remaining c.loop-turn.reader) ps c.loop-turn.self (length c.unparsed-text.result.now) (c.loop-turn.invariant.parts start ps had) c.if-self.true (ap length c.unparsed-text.ensures))

pub returns-then-self-clause-due : goal.returns-then-self-clause-due
returns-then-self-clause-due g c = c.loop-turn.invariant.due

pub returns-then-self-gt0-clause-next : goal.returns-then-self-gt0-clause-next
returns-then-self-gt0-clause-next g c = λ start ps had. (
  looked_parts g.T.Item.item_type start (g.R.Read.remaining c.loop-turn.reader) ps c.loop-turn.self c.look.new.self c.look.ensures.only (c.loop-turn.invariant.parts start ps had) c.in_ok-looked.ensures.cut c.in_ok-looked.ensures.scanned,
  λ none. absurd (omega arith),
)

pub returns-then-self-gt0-clause-kept : goal.returns-then-self-gt0-clause-kept
returns-then-self-gt0-clause-kept g c = subst (λ (b : Buffer). KeepsWindow c.args.self.now.buffer b) (sym c.look.ensures.buffer) c.loop-turn.invariant.kept

pub returns-then-self-gt0-clause-last : goal.returns-then-self-gt0-clause-last
returns-then-self-gt0-clause-last g c = ap (λ (b : Buffer). b.last) c.look.ensures.buffer ∙ c.loop-turn.invariant.last

pub returns-then-self-gt0-clause-due : goal.returns-then-self-gt0-clause-due
returns-then-self-gt0-clause-due g c = λ e.
    subst (λ (x : ItemReader). (g.R.Read.remaining c.loop-turn.reader ≡ g.R.Read.remaining c.args.reader.now) ⊎ ReadsLast g.T.Item.item_type (buffered x)) (sym c.look.ensures.only) (c.loop-turn.invariant.due e)

pub loop-turn-preserved : goal.loop-turn-preserved
loop-turn-preserved g c =
    let k = g.T.Item.item_type in
    let inv = c.loop-turn.invariant in
    let looked = c.look.new.self in
    let found = c.in_ok-looked.ensures in
    let shown = c.in_ok-read_shown.ensures in
    let at : (start : Option (List ℕ)) (ps : List (List Line)) → HasParts k start (g.R.Read.remaining c.args.reader.now) ps c.args.self.now → HasParts k start (g.R.Read.remaining c.loop-turn.reader) ps looked =
    λ start ps had. looked_parts k start (g.R.Read.remaining c.loop-turn.reader) ps c.loop-turn.self looked c.look.ensures.only (inv.parts start ps had) found.cut found.scanned in
    let zero : looked.pending ≡ 0 = omega arith in
    let (start, ps, had) = c.requires.had in
    let one : IsOneLine shown.shown.0 = elim shown.shown.2 [
      | inl is ↦ subst (λ (x : List ℕ). IsOneLine x) (sym is) (at start ps had).1.lines.one_line
      | inr none ↦ subst (λ (x : List ℕ). IsOneLine x) (sym none) tt
    ] in
    record {
      same = c.read_shown.ensures.same ∙ c.look.ensures.same ∙ inv.same;
      eager = c.read_shown.ensures.eager ∙ c.look.ensures.eager ∙ inv.eager;
      parsed = c.read_shown.ensures.parsed;
      none = c.read_shown.ensures.none;
      last = ap (λ (b : Buffer). b.last) c.read_shown.ensures.buffer ∙ ap (λ (b : Buffer). b.last) c.look.ensures.buffer ∙ inv.last;
      kept = keeps_more c.args.self.now.buffer looked.buffer c.read_shown.new.self.buffer (subst (λ (b : Buffer). KeepsWindow c.args.self.now.buffer b) (sym c.look.ensures.buffer) inv.kept) shown.kept;
      due = λ e.
          let none : HasNoneDue k (unparsed c.loop-turn.self.buffer) = subst (λ (n : ℕ). HasNoneDue k (drop n (unparsed c.loop-turn.self.buffer))) zero (found.due (inv.eager ∙ e)) in
          inr (record { lines = unparsed looked.buffer; open_line = shown.shown.0; block = shown.shown.1; bytes_are = shown.shown.4; none_due = subst (λ (b : Buffer). HasNoneDue k (unparsed b)) (sym c.look.ensures.buffer) none; one_line = one; short = shown.shown.3 });
      parts = λ start ps had. shown.read k start ps (at start ps had);
    }
