use Rattle.std.proofs.Common.{take, refl, arith, length-append}
use Rattle.souper_stream.proofs.Prelude.{starts_of}
use Rattle.souper_stream.specs.Parts.{AreNextStarts}
use Rattle.souper_stream.proofs.Buffers.{kept_starts}
use Rattle.souper_stream.proofs.reader.ItemReader.pass.Goals as goal

pub returns-clause-advanced : goal.returns-clause-advanced
returns-clause-advanced c =
    let r = c.args.self.now in
    let len = c.args.len in
    record {
      same = refl;
      passes = c.pass.ensures;
      begin = kept_starts (starts_of r.memory) (λ offsets. AreNextStarts r.buffer len offsets c.starts_in.new.starts.items) c.starts.result.now c.starts.ensures.asked
          (λ done rest b small. (rw (c.unparsed.ensures, b.rest_is) at c.in_ok-starts_in.ensures) done (c.passed.ensures done rest b (omega (arith, length-append done (take len rest), small))) small);
    }
