use Rattle.std.proofs.Common.{◌≡◌, true, false, sym, ◌∙◌, arith, length-drop}
use Rattle.souper_stream.specs.Buffering.{window}
use Rattle.souper_stream.proofs.Cutting.{scan_within}
use Rattle.souper_stream.proofs.reader.ItemReader.look.Goals as goal

pub returns-then-not-due-clause-cut : goal.returns-then-not-due-clause-cut
returns-then-not-due-clause-cut g c = λ some. absurd (omega (arith, some, c.requires.none))

pub returns-then-not-due-clause-scanned : goal.returns-then-not-due-clause-scanned
returns-then-not-due-clause-scanned g c = rw c.requires.none c.requires.scanned

pub returns-then-not-due-clause-due : goal.returns-then-not-due-clause-due
returns-then-not-due-clause-due g c = λ eager. (let bad : true ≡ false = sym (c.is_due-due.ensures eager) ∙ c.if-not-due.true in absurd cc)

pub find_cut-requires : goal.find_cut-requires
find_cut-requires g c = rw c.unparsed-text.ensures (record { within = scan_within _ _ _ c.requires.scanned; scanned = c.requires.scanned })

pub returns-clause-within : goal.returns-clause-within
returns-clause-within g c =
    let b = c.args.self.now.buffer in
    let found = rw c.unparsed-text.ensures at c.in-Ok.ensures in
    omega (arith, found.within, c.requires.parsed, b.bytes.ok, length-drop b.start b.bytes.items, length-drop b.parsed (window b))

pub returns-clause-cut : goal.returns-clause-cut
returns-clause-cut g c = (rw c.unparsed-text.ensures at c.in-Ok.ensures).cut

pub returns-clause-scanned : goal.returns-clause-scanned
returns-clause-scanned g c = (rw c.unparsed-text.ensures at c.in-Ok.ensures).scanned

pub returns-clause-due : goal.returns-clause-due
returns-clause-due g c = (rw c.unparsed-text.ensures at c.in-Ok.ensures).none
