use Rattle.std.proofs.Common.{inl, refl, take, arith, codes}
use Rattle.std.proofs.Transfers.{starts_with_trans}
use Rattle.std.proofs.lemmas.Str.{IsUtf8-nil}
use Rattle.souper_stream.proofs.Cutting.{front_take, absent_front, no_terminators, no_end_nil, without_end}
use Rattle.souper_stream.proofs.lines.len_without_end.Goals as goal

pub returns-in-Ok : goal.returns-in-Ok
returns-in-Ok g c =
    let k = g.T.Item.item_type in
    let bytes = c.args.bytes.now in
    let window = take c.min.result bytes in
    let first = c.before_word-front in
    let second = c.before_word-front-2 in
    let third = c.before_word-front-3 in
    let last = third.result.now in
    let behind = starts_with_trans first.result.now second.result.now last second.ensures.front third.ensures.front in
    let starts = starts_with_trans bytes window last (front_take c.min.result bytes) (starts_with_trans window first.result.now last first.ensures.front behind) in
    let none = no_terminators k last (λ e. absent_front (codes "infer") last first.result.now behind (first.ensures.none e)) (λ e. absent_front (codes "result") last second.result.now third.ensures.front (second.ensures.none e)) third.ensures.none in
    without_end k bytes last c.lines_len-len.result starts none c.lines_len-len.ensures.bound c.lines_len-len.ensures.lines (rw c.in-Ok.ensures.same at c.in-Ok.ensures.utf8)

pub returns-in-Err : goal.returns-in-Err
returns-in-Err g c = record { within = omega arith; lines = inl refl; utf8 = IsUtf8-nil; none = no_end_nil g.T.Item.item_type }
