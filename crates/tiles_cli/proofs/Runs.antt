-- What a run says of its end, in the words of the tiles.
use Rattle.std.proofs.Common.{◌≡◌, ◌⊎◌, inl, inr, ℕ, List, [], length, take, Bool, Option, Some, Ok, Err, refl, sym, ap, subst, ◌∙◌, arith}
use Rattle.std.specs.Prelude.{IsTrue, OnOk}
use Rattle.std.proofs.lemmas.List.{append-nil, take_all}
use Rattle.outside_io.specs.declared.volume.VolFile.TheVariants.{Bundle, Journal}
use Rattle.outside_io.specs.streams.Sink.{Holds, HoldsPrefix}
use Rattle.outside_io.specs.volume.History.{contents, current}
use Rattle.outside_io.proofs.StreamLemmas.Gives.{HoldsPrefix_whole, Holds_none}
use Rattle.bundle_store.specs.declared.tile_rec.TileRec.{TileRec}
use Rattle.bundle_store.specs.Build.{map_after}
use Rattle.bundle_store.specs.Images.{EachImage, StandsFor}
use Rattle.bundle_store.specs.Tiles.{TileMap}
use Rattle.bundle_lines.specs.Gave.{PutEnd, PutGave}
use Rattle.bundle_lines.specs.declared.stop.PutStop.TheVariants.{Output as PutOutput, Volume as PutVolume, Full as PutFull}
use Rattle.bundle_lines.specs.Lines.{put_lines}
use Rattle.bundle_tiles.specs.Exported.{AreTilesAt, ExportGave, GaveTiles, slots_of, tiles_of}
use Rattle.bundle_tiles.specs.Imported.{ImportEnd, ReadsStream, StartsWith, puts_end_of}
use Rattle.bundle_tiles.specs.RawStream.{IsRawStream, IsStreamFault}
use Rattle.bundle_tiles.specs.declared.raw_tile.RawFault.{RawFault}
use Rattle.bundle_tiles.specs.declared.taking.ImportStop.TheVariants as found
use Rattle.opened_bundle.specs.Left.{IsReady}
use Rattle.opened_bundle.specs.declared.refusal.StoreRefusal.{StoreRefusal}
use Rattle.program_ends.specs.Moves.{SinkMove, SourceMove, VolumeMove}
use Rattle.program_ends.specs.Stop.{End as EndOf, IsRefusalStatus}
use Rattle.program_ends.specs.declared.stop.Stop.{Stop}
use Rattle.program_ends.specs.declared.stop.Stop.TheVariants.{Usage, Source, Output, Volume, OutOfMemory, Refused}
use Rattle.tiles_cli.specs.Exporting.{GivesSlots, IsUnopened, OfAll, Rests}
use Rattle.tiles_cli.specs.Importing.{OfImport}
use Rattle.outside_io.specs.program.Line.{GivesLine}
use Rattle.tiles_cli.specs.Names.{End, GivesLineOf, import_end_of, line_of, refusal_status, status_at, store_end_of, with_store}
use Rattle.tiles_cli.specs.Run.{GaveStream, ImportedAll, KeepsImport}
use Rattle.tiles_cli.specs.declared.refusal.Refusal.{Refusal}
use Rattle.tiles_cli.specs.declared.refusal.Refusal.TheVariants.{Stream, List as NoList, Store, TooManyTiles}
use Rattle.tiles_cli.proofs.Exporting.{all_tiles}
use Rattle.tiles_cli.proofs.Keeping.{keeps_none}

pub own : (r : Refusal) → IsRefusalStatus (refusal_status r)
own (Stream f) = inl refl
own (NoList f) = inl refl
own (Store refusal) = inr (omega arith)
own TooManyTiles = inr (omega arith)

never_well : (end : End) (vol : VolumeMove) (out : SinkMove) → IsUnopened end vol out → end ≡ Ok tt → ⊥
never_well end vol out un well = let no : ◌≡◌ {A = End} (Ok tt) (Err (with_store un.stop)) = sym well ∙ un.end_is in cc

-- ---- an export that ends well

gave_ok : (answer : EndOf StoreRefusal) (told : Bool) (bundle slots : List ℕ) (old new : Option (List ℕ)) → store_end_of answer ≡ Ok tt → ExportGave answer told bundle slots old new → GaveTiles told bundle slots (Holds old new)
gave_ok (Ok x) told bundle slots old new is gave = gave
gave_ok (Err stop) told bundle slots old new is gave = absurd (let no : ⊥ = cc in no)

pub export_well : (start : TileMap) (end : End) (vol : VolumeMove) (out : SinkMove) → IsTrue vol.told.old → StandsFor (contents Bundle vol.history.old) (contents Journal vol.history.old) start → OfAll end vol out → end ≡ Ok tt → GaveStream start out
export_well start end vol out told stands so well = by so.ends
  where
    by : IsUnopened end vol out ⊎ ((slots : List ℕ) × ((IsTrue vol.told.old → slots ≡ slots_of (contents Bundle vol.history.new)) × GivesSlots slots end vol out)) → GaveStream start out
    by (inl un) = absurd (never_well end vol out un well)
    by (inr (slots, (asks, gives))) =
        let gave = gave_ok gives.answer vol.told.old (contents Bundle vol.history.new) slots out.held.old out.held.new (sym gives.end_is ∙ well) gives.gave in
        let all = all_tiles vol.told.old (contents Bundle vol.history.new) gave.given told (subst (λ (xs : List ℕ). AreTilesAt vol.told.old (contents Bundle vol.history.new) xs gave.given) (asks told) gave.tiles_are) in
        (gave.bytes, (subst (λ (ts : List TileRec). IsRawStream gave.bytes ts) (all ∙ ap tiles_of (sym (gives.stands told start stands))) gave.stream, gave.held))

-- ---- an import

import_ok : (r : ImportEnd) (bytes : List ℕ) (ts : List TileRec) → import_end_of r ≡ Ok tt → ReadsStream r (Some bytes) ts → IsRawStream bytes ts
import_ok (Ok x) bytes ts is reads = reads
import_ok (Err stop) bytes ts is reads = absurd (let no : ⊥ = cc in no)

gave_all : (r : ImportEnd) (ts : List TileRec) (n : ℕ) (old new : Option (List ℕ)) → import_end_of r ≡ Ok tt → PutGave (puts_end_of r) ts n old new → (n ≡ length ts) × Holds old new (put_lines ts)
gave_all (Ok x) ts n old new is gave = gave
gave_all (Err stop) ts n old new is gave = absurd (let no : ⊥ = cc in no)

-- the lines that were given are of tiles with a mark
gave_prefix : (r : PutEnd) (ts : List TileRec) (n : ℕ) (old new : Option (List ℕ)) → PutGave r ts n old new → HoldsPrefix old new (put_lines (take n ts))
gave_prefix (Ok x) ts n old new (all, lines) = HoldsPrefix_whole old new (put_lines (take n ts)) (subst (λ (us : List TileRec). Holds old new (put_lines us)) (sym (take_all n ts (omega (arith, all)))) lines)
gave_prefix (Err PutOutput) ts n old new (some, within, lines) = lines
gave_prefix (Err PutVolume) ts n old new (within, lines) = HoldsPrefix_whole old new (put_lines (take n ts)) lines
gave_prefix (Err (PutFull len)) ts n old new (within, lines) = HoldsPrefix_whole old new (put_lines (take n ts)) lines

-- a stream that is refused
import_faulty : (r : ImportEnd) (bytes : List ℕ) (ts : List TileRec) (n : ℕ) → n ≡ 2 → n ≡ status_at (import_end_of r) → ReadsStream r (Some bytes) ts → (f : RawFault) × ((import_end_of r ≡ Err (Refused (Stream f))) × IsStreamFault bytes f)
import_faulty (Ok x) bytes ts n two is reads = absurd (omega (arith, two, is))
import_faulty (Err (found.Stream f)) bytes ts n two is reads = (f, (refl, reads.0))
import_faulty (Err found.Source) bytes ts n two is reads = absurd (omega (arith, two, is))
import_faulty (Err found.Output) bytes ts n two is reads = absurd (omega (arith, two, is))
import_faulty (Err found.Volume) bytes ts n two is reads = absurd (omega (arith, two, is))
import_faulty (Err found.OutOfMemory) bytes ts n two is reads = absurd (omega (arith, two, is))
import_faulty (Err (found.Full len)) bytes ts n two is reads = absurd (omega (arith, two, is))
import_faulty (Err found.TooManyTiles) bytes ts n two is reads = absurd (omega (arith, two, is))

-- the tiles that were read come first in the source
starts_with : (r : ImportEnd) (bytes : List ℕ) (ts : List TileRec) → ReadsStream r (Some bytes) ts → StartsWith bytes ts
starts_with (Ok x) bytes ts reads = ([], record { front = bytes; joined = sym (append-nil bytes); stream = reads })
starts_with (Err (found.Stream f)) bytes ts reads = reads.1
starts_with (Err found.Source) bytes ts reads = reads
starts_with (Err found.Output) bytes ts reads = reads
starts_with (Err found.Volume) bytes ts reads = reads
starts_with (Err found.OutOfMemory) bytes ts reads = reads
starts_with (Err (found.Full len)) bytes ts reads = reads
starts_with (Err found.TooManyTiles) bytes ts reads = reads

module _ (bytes : List ℕ) (start : TileMap) (end : End) (src : SourceMove) (vol : VolumeMove) (out : SinkMove) (held : src.left.old ≡ Some bytes) (so : OfImport end src vol out) where
  pub import_well : IsTrue vol.told.old → StandsFor (contents Bundle vol.history.old) (contents Journal vol.history.old) start → end ≡ Ok tt → ImportedAll bytes start vol out
  import_well told stands well = elim so.ends [
    | inl un ↦ absurd (never_well end vol out un.unopened well)
    | inr p ↦ (
        let answer : import_end_of p.answer ≡ Ok tt = sym p.end_is ∙ well in
        let stream = import_ok p.answer bytes p.tiles answer (subst (λ (o : Option (List ℕ)). ReadsStream p.answer o p.tiles) held p.reads) in
        let gave = gave_all p.answer p.tiles (length p.marks) out.held.old out.held.new answer p.gave in
        let Left : List TileRec → Type 0 = λ us. EachImage (λ map. map ≡ map_after start us) (current vol.history.new) in
        let each : Left (take (length p.marks) p.tiles) = subst (λ (e : End). OnOk e (Left (take (length p.marks) p.tiles))) well (p.done told start stands) in
        record {
          tiles = p.tiles;
          stream = stream;
          lines = gave.1;
          stands = subst Left (take_all (length p.marks) p.tiles (omega (arith, gave.0))) each;
          shut = subst (λ (e : End). Rests e (contents Journal vol.history.old) (current vol.history.new)) well (so.rests told);
        }
        )
  ]

  pub import_keeps : IsReady vol.told.old vol.history.old start → (out.same → out.held.new ≡ out.held.old) → KeepsImport bytes start vol.history.old vol.history.new out.held.old out.held.new
  import_keeps ready idle = elim so.ends [
    | inl un ↦ record {
      tiles = [];
      marks = [];
      read = (bytes, record { front = []; joined = refl; stream = refl });
      kept = keeps_none [] start vol.told.old vol.history.old vol.history.new ready (un.keeps ready.tells ready.sound);
      marks_are = record { rising = λ i j le less. absurd (let no : ⊥ = omega (arith, less) in no); within = λ i less. absurd (let no : ⊥ = omega (arith, less) in no) };
      lines = subst (λ (h : Option (List ℕ)). HoldsPrefix out.held.old h []) (sym (idle un.unopened.idle)) (HoldsPrefix_whole out.held.old out.held.old [] (Holds_none out.held.old));
    }
    | inr p ↦ record {
      tiles = p.tiles;
      marks = p.marks;
      read = starts_with p.answer bytes p.tiles (subst (λ (o : Option (List ℕ)). ReadsStream p.answer o p.tiles) held p.reads);
      kept = p.keeps start ready;
      marks_are = p.marks_are ready.tells;
      lines = gave_prefix (puts_end_of p.answer) p.tiles (length p.marks) out.held.old out.held.new p.gave;
    }
  ]

-- ---- a stream that is refused

opening_status : (stop : Stop StoreRefusal) (n : ℕ) → n ≡ 2 → n ≡ status_at (Err (with_store stop)) → ⊥
opening_status Usage n two is = omega (arith, two, is)
opening_status Source n two is = omega (arith, two, is)
opening_status Output n two is = omega (arith, two, is)
opening_status Volume n two is = omega (arith, two, is)
opening_status OutOfMemory n two is = omega (arith, two, is)
opening_status (Refused refusal) n two is = omega (arith, two, is)

pub import_refused : (bytes : List ℕ) (end : End) (n : ℕ) (src : SourceMove) (vol : VolumeMove) (out err : SinkMove) → n ≡ 2 → n ≡ status_at end → src.left.old ≡ Some bytes → OfImport end src vol out → GivesLineOf end err
    → (f : RawFault) × (IsStreamFault bytes f × GivesLine err.held.old err.held.new err.faults.old err.faults.new (line_of (Refused (Stream f))))
import_refused bytes end n src vol out err two is told so line = elim so.ends [
  | inl un ↦ absurd (opening_status un.unopened.stop n two (is ∙ ap status_at un.unopened.end_is))
  | inr p ↦ (
      let faulty = import_faulty p.answer bytes p.tiles n two (is ∙ ap status_at p.end_is) (subst (λ (o : Option (List ℕ)). ReadsStream p.answer o p.tiles) told p.reads) in
      (faulty.0, (faulty.1.1, (subst (λ (e : End). GivesLineOf e err) (p.end_is ∙ faulty.1.0) line)))
      )
]
