-- What the inner sinks wrote, once the output is flushed.
use Rattle.std.proofs.Common.{◌≡◌, ℕ, List, Option}
use Rattle.std.specs.Io.KnownBytes.{Appends, Keeps}
use Rattle.std.proofs.KnownBytes.{Appends-kept}
use Rattle.souper_graph.specs.Values.{Item}
use Rattle.souper_graph.specs.Syntax.Spelling.{ItemType}
use Rattle.souper_watched.specs.Streams.{Stream}
use Rattle.souper_records.specs.declared.each.Records.{Records}
use Rattle.souper_records.specs.declared.layout.Layout.{Layout}
use Rattle.souper_records.specs.declared.seen.Seen.{Seen}
use Rattle.souper_records.specs.declared.uniq.Distinct.{Distinct}
use Rattle.souper_records.specs.Outcomes.{Outcome, items_of}
use Rattle.souper_records.specs.Records.{records_of}
use Rattle.souper_records.specs.Uniques.{HasSeen, WritesDistinct, WritesSeenDistinct, WritesNewDistinct}
use Rattle.souper_records.proofs.Seeing.{distinct_records}

abbrev pub WroteRecords : Layout → Option (List ℕ) → Option (List ℕ) → Records → List Outcome → Type 0
WroteRecords l x y s os = (s.layout ≡ l) × Appends x y (records_of l (items_of os))

abbrev pub KnownRecords : Layout → Option (List ℕ) → Option (List ℕ) → List Outcome → Type 0
KnownRecords l x y os = (s : Records) × WroteRecords l x y s os

pub records_kept : (l : Layout) (x y z : Option (List ℕ)) (s : Records) → Keeps y z → (os : List Outcome) → WroteRecords l x y s os → Appends x z (records_of l (items_of os))
records_kept l x y z s kept os (e, w) = Appends-kept x y z (records_of l (items_of os)) w kept

pub known_records : (l : Layout) (x y z : Option (List ℕ)) → Keeps y z → (os : List Outcome) → KnownRecords l x y os → Appends x z (records_of l (items_of os))
known_records l x y z kept os (s, w) = records_kept l x y z s kept os w

abbrev pub WroteDistinct : ItemType → Layout → Seen → Option (List ℕ) → Option (List ℕ) → Distinct → List Outcome → Type 0
WroteDistinct k l before x y s os = (s.layout ≡ l) × WritesNewDistinct k l x y before s.seen (items_of os)

abbrev pub KnownDistinct : ItemType → Layout → Seen → Option (List ℕ) → Option (List ℕ) → List Outcome → Type 0
KnownDistinct k l before x y os = (s : Distinct) × WroteDistinct k l before x y s os

pub distinct_kept : (k : ItemType) (l : Layout) (before : Seen) (earlier : List Item) (out : Stream) (y : Option (List ℕ)) (s : Distinct) → HasSeen k l.rename earlier before → Keeps y out.after → (os : List Outcome) → WroteDistinct k l before out.before y s os
    → WritesSeenDistinct k l earlier out s.seen (items_of os)
distinct_kept k l before earlier out y s had kept os (e, w) = distinct_records k l out before s.seen earlier (items_of os) had (λ f h. (let m = w f h in (m.0, Appends-kept _ _ _ _ m.1 kept)))

pub known_distinct : (k : ItemType) (l : Layout) (before : Seen) (earlier : List Item) (out : Stream) (y : Option (List ℕ)) → HasSeen k l.rename earlier before → Keeps y out.after → (os : List Outcome) → KnownDistinct k l before out.before y os
    → WritesDistinct l earlier out (items_of os)
known_distinct k l before earlier out y had kept os (s, w) = (distinct_kept k l before earlier out y s had kept os w).0
