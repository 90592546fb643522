use Rattle.std.proofs.Common.{◌≡◌, ◌-◌, min, map, length, take, drop, sym, ap, ◌∙◌, string_bytes}
use Rattle.std.proofs.lemmas.List.{take_rest, drop_min}
use Rattle.std.proofs.lemmas.Result.{on_ok_weaker}
use Rattle.souper_records.proofs.Prelude.{keys, index_map_len, watched_inner}
use Rattle.souper_records.specs.Distinct.{tally_all}
use Rattle.souper_records.specs.Uniques.{text_count}
use Rattle.souper_records.specs.Outcomes.{items_of}
use Rattle.souper_records.proofs.Outcomes.{items_more}
use Rattle.souper_records.proofs.Seeing.{keeps_one, keeps_join}
use Rattle.souper_records.proofs.uniq.DistinctPartSink.write_part.Goals as goal

pub returns-clause-written : goal.returns-clause-written
returns-clause-written g c = on_ok_weaker c.write_text.result (λ w first from os before o wrote idle taken line text refusal.
    let old = g.W.Write.contents (watched_inner c.args.out.now) in
    let new = g.W.Write.contents (watched_inner c.write_text.new.out) in
    let k = g.T.Item.item_type in
    let l = first.layout in
    let (layout, seen, texts, well) = rw wrote.0 at taken in
    let t = before.seen in
    let u = c.see_texts.new.seen in
    let seen_texts = c.as_slice.result.now in
    let start : c.len-start.result ≡ index_map_len t.counts = c.len-start.ensures.len ∙ ap (λ s. index_map_len s.counts) seen in
    let long : c.len.result ≡ length seen_texts = c.len.ensures.value ∙ ap length (sym c.as_slice.ensures) in
    let added : take (length seen_texts - c.min.result) (drop c.min.result seen_texts) ≡ drop (index_map_len t.counts) (keys u.counts) =
    take_rest seen_texts c.min.result ∙ ap (λ n. drop n seen_texts) (c.min.ensures ∙ (λ i. min (start i) (long i))) ∙ drop_min (index_map_len t.counts) seen_texts ∙ ap (drop (index_map_len t.counts)) (c.as_slice.ensures ∙ c.keys-seen.ensures.rest) in
    let counted = c.in_ok-see_texts.ensures ∙ (λ i. tally_all (map text_count (seen i).counts.entries) ((ap (λ v. map string_bytes v.items) c.replace-texts.ensures.value ∙ texts) i)) in
    (layout, rw items_more (keeps_join k l from old new first.seen t u (items_of os) o.items wrote.1 (keeps_one k l old new t u o.items well counted (rw (c.in_ok-text.ensures, layout, added) at w))))) c.write_text.ensures.written
