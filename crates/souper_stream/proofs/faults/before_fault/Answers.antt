use Rattle.std.proofs.Common.{◌≡◌, ℕ, List, length, take, arith, ap, ◌∙◌, sym, length-append, ◌==◌, take_all, length-take, ◌++◌, ◌+◌, ◌<◌, ◌^◌}
use Rattle.std.specs.Str.Lossy.{utf8_valid_len}
use Rattle.std.proofs.lemmas.Str.{utf8_valid_len-IsUtf8}
use Rattle.std.proofs.lemmas.List.Sums.{count_by-le-length}
use Rattle.souper_stream.proofs.Prelude.{newlines-append}
use Rattle.souper_stream.proofs.faults.before_fault.Goals as goal
use Rattle.souper_stream.proofs.faults.before_fault.Goals.{in-Ok, in-Err}

pub returns : goal.returns
returns c = λ text counts small.
    let bytes : List ℕ = c.args.bytes.now in
    let valid : List ℕ = c.match-from_utf8.valid.now in
    let valid_is : valid ≡ take (utf8_valid_len bytes) bytes = elim c.match-from_utf8.branch [
      | in-Ok w ↦ (λ i. (w.valid-is i).now) ∙ sym (take_all (utf8_valid_len bytes) bytes (omega (arith, utf8_valid_len-IsUtf8 bytes w.in-Ok.ensures.cases.1)))
      | in-Err w ↦ (λ i. (w.valid-is i).now) ∙ ap (λ (n : ℕ). take n bytes) (w.valid_up_to.ensures ∙ w.in-Err.ensures.valid_len)
    ] in
    let long = length-append text valid in
    let fits : length text + length valid < 2 ^ 64 = omega (arith, small, length-append text bytes, ap length valid_is, length-take (utf8_valid_len bytes) bytes) in
    rw (← valid_is) (omega (arith, c.saturating_add.ensures), omega (arith, c.saturating_add-2.ensures, c.newline_count.ensures, newlines-append text valid, count_by-le-length (λ b. b == 10) (text ++ valid)))
