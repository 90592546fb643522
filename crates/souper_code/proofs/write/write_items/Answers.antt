use Rattle.std.proofs.Common.{rules, ◌≢◌, List, [], ◌∷◌, ◌++◌, ◌∙◌, ap, arith, length-append, subst}
use Rattle.souper_graph.specs.Values.{Item}
use Rattle.souper_graph.specs.Text.{texts_of}
use Rattle.souper_code.specs.Writing.{IsCodeOfOnly, BeginsWithNone}
use Rattle.souper_code.proofs.Items.{read_more, all_read, none_read, offset_is, count_is, of_nothing}
use Rattle.souper_code.proofs.write.write_items.Goals as goal

pub returns-in-Err-NoCode-clause-stopped : goal.returns-in-Err-NoCode-clause-stopped
returns-in-Err-NoCode-clause-stopped g c =
    let (done, known) = c.loop-reader.invariant in
    let some : c.loop-reader.reader.rest.now ≢ [] = search rules in
    let none : BeginsWithNone g.T.Item.item_type c.loop-reader.reader.rest.now = λ x rest fits e. rw c.in-Err-NoCode.field-0-is at (c.in-Err-NoCode.ensures.only x rest fits e) in
    (none_read _ _ done _ known.read some none, (done, c.loop-reader.reader.rest.now, known.read.codable, known.read.read, (known.count, offset_is _ _ done _ _ known.read (search rules)), none))

pub overflow_add-index : goal.overflow_add-index
overflow_add-index g c =
    let (done, known) = c.loop-reader.invariant in
    let some : c.loop-reader.reader.rest.now ≢ [] = search rules in
    let read = read_more _ _ done _ _ _ known.read some c.in-Ok.ensures.read.0 c.in-Ok.ensures.read.1 c.in-Ok.ensures.only in
    omega (arith, known.count, length-append done (g.T.Item.view c.in-Ok.item ∷ []), count_is _ _ _ _ read)

pub loop-reader-preserved : goal.loop-reader-preserved
loop-reader-preserved g c =
    let (done, known) = c.loop-reader.invariant in
    let some : c.loop-reader.reader.rest.now ≢ [] = search rules in
    let read = read_more _ _ done _ _ _ known.read some c.in-Ok.ensures.read.0 c.in-Ok.ensures.read.1 c.in-Ok.ensures.only in (
      done ++ (g.T.Item.view c.in-Ok.item ∷ []),
      record {
        read = read;
        count = omega (arith, known.count, length-append done (g.T.Item.view c.in-Ok.item ∷ []));
        judged = c.in_ok-add-in-Ok.ensures done (known.count, offset_is _ _ done _ _ known.read (search rules)) known.judged;
      },
    )

pub returns-in-None-clause-written : goal.returns-in-None-clause-written
returns-in-None-clause-written g c =
    let (done, known) = c.loop-reader.invariant in
    let judged = rw c.in-None.is at known.judged in
    (done, all_read _ _ done _ known.read (search rules), judged.0, judged.1)

pub returns-in-None-clause-empty : goal.returns-in-None-clause-empty
returns-in-None-clause-empty g c = λ none.
    let (done, known) = c.loop-reader.invariant in
    let judged = rw c.in-None.is at known.judged in
    judged.1 ∙ ap texts_of (of_nothing _ _ done _ known.read none).0

pub returns-in-Some-clause-stopped : goal.returns-in-Some-clause-stopped
returns-in-Some-clause-stopped g c =
    let (done, known) = c.loop-reader.invariant in
    let (before, x, after, same, fine, ill, at) = rw c.in-Some.is at known.judged in
    (before, x, after, subst (λ (xs : List Item). IsCodeOfOnly g.T.Item.item_type c.args.code.now xs) same (all_read _ _ done _ known.read (search rules)), fine, ill, at)
