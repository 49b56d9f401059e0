-- A stream, read and put group by group.
use Rattle.std.proofs.Common.{◌≡◌, ℕ, zero, suc, ◌+◌, ◌*◌, ◌^◌, ◌<◌, ◌≤◌, List, [], ◌∷◌, ◌++◌, length, Option, Some, None, Bool, Ok, Err, refl, sym, ap, subst, ◌∙◌, arith, append_assoc, length-append}
use Rattle.std.proofs.lemmas.List.{append-nil}
use Rattle.first_fault.specs.Faults.{Numbered}
use Rattle.std.specs.Prelude.{Result}
use Rattle.outside_io.specs.streams.Faults.{IsCause}
use Rattle.outside_io.specs.streams.Source.{IsAtEnd}
use Rattle.outside_io.specs.volume.History.{History}
use Rattle.raster_grids.proofs.Taken.{ended, took_none}
use Rattle.raster_grids.proofs.TakenBytes.{took_join}
use Rattle.bundle_store.specs.declared.tile_rec.TileRec.{TileRec}
use Rattle.bundle_store.specs.Build.{EachFits}
use Rattle.bundle_store.specs.GroupPuts.{AreTilesIn}
use Rattle.bundle_store.specs.Session.{SessionState}
use Rattle.bundle_lines.specs.Gave.{PutEnd}
use Rattle.bundle_lines.specs.Puts.{PutsEnd}
use Rattle.bundle_lines.specs.declared.stop.PutStop.{PutStop}
use Rattle.bundle_lines.specs.declared.stop.PutStop.TheVariants as put
use Rattle.bundle_tiles.specs.declared.raw_tile.RawFault.{RawFault}
use Rattle.bundle_tiles.specs.declared.raw_tile.RawStop.{RawStop}
use Rattle.bundle_tiles.specs.declared.raw_tile.RawStop.TheVariants.{Fault, Source, OutOfMemory}
use Rattle.bundle_tiles.specs.declared.taking.Group.{Group}
use Rattle.bundle_tiles.specs.declared.taking.ImportStop.{ImportStop}
use Rattle.bundle_tiles.specs.declared.taking.ImportStop.TheVariants as stops
use Rattle.bundle_tiles.specs.Imported.{ImportEnd, Imports, ReadsStream}
use Rattle.bundle_tiles.specs.RawStream.{IsRawStream, IsStreamFault}
use Rattle.bundle_tiles.specs.RawTile.{CountsRawStop, IsRawTile, IsToldRaw, TookRaw}
use Rattle.bundle_tiles.specs.inside.Groups.{IsGroup, IsPutStop, IsToldStream, PutsGroup, TookGroup, put_stop_of, read_stop_of}
use Rattle.bundle_tiles.proofs.Joining.{PutWhole, puts_both, whole_more}
use Rattle.bundle_tiles.proofs.RawStreams.{stream_join, stream_push}
use Rattle.bundle_tiles.proofs.RawTiles.{raw_fits, raw_long}

-- ---- what tiles of a stream are

in_bundle : (k : ℕ) (bytes : List ℕ) (ts : List TileRec) → Numbered (λ k. IsRawTile) k bytes ts → AreTilesIn ts
in_bundle k bytes [] is = tt
in_bundle k bytes (t ∷ ts) (front, (rest, (joined, (tile, more)))) =
    let h = tile.head_is in
    let fits = raw_fits front t tile in
    (omega (arith, h.slot_is, h.row, h.col), fits.0, omega (arith, fits.1), in_bundle (suc k) rest ts more)

-- they have slots, and a bundle can hold them
pub stream_in : (bytes : List ℕ) (ts : List TileRec) → IsRawStream bytes ts → AreTilesIn ts
stream_in bytes ts is = in_bundle 0 bytes ts is

each_fits : (k : ℕ) (bytes : List ℕ) (ts : List TileRec) → Numbered (λ k. IsRawTile) k bytes ts → EachFits ts
each_fits k bytes [] is i less = absurd (let no : ⊥ = omega (arith, less) in no)
each_fits k bytes (t ∷ ts) (front, (rest, (joined, (tile, more)))) zero less = raw_fits front t tile
each_fits k bytes (t ∷ ts) (front, (rest, (joined, (tile, more)))) (suc i) less = each_fits (suc k) rest ts more i (omega (arith, less))

pub stream_fits : (bytes : List ℕ) (ts : List TileRec) → IsRawStream bytes ts → EachFits ts
stream_fits bytes ts is = each_fits 0 bytes ts is

-- ---- a group

pub group_none : (left : Option (List ℕ)) (at : ℕ) (tiles : List TileRec) → tiles ≡ [] → TookGroup left left at at tiles
group_none left at tiles none = subst (TookGroup left left at at) (sym none) (record { bytes = []; stream = refl; took = took_none left; end_is = omega arith })

-- one tile more
pub group_more : (old mid new : Option (List ℕ)) (at end next : ℕ) (tiles all : List TileRec) (t : TileRec) → TookGroup old mid at end tiles → TookRaw mid new (Some t) → all ≡ tiles ++ t ∷ [] → next ≡ end + (7 + length t.bytes) → TookGroup old new at next all
group_more old mid new at end next tiles all t so (more, (raw, took)) is behind =
    subst (TookGroup old new at next) (sym is) (record {
      bytes = so.bytes ++ more;
      stream = stream_push so.bytes more tiles t so.stream raw;
      took = took_join old mid new so.bytes more so.took took;
      end_is = (let long = raw_long more t raw in omega (arith, behind, so.end_is, long, length-append so.bytes more));
    })

-- none was left
pub group_still : (old mid new : Option (List ℕ)) (at end : ℕ) (tiles : List TileRec) → TookRaw mid new None → TookGroup old mid at end tiles → TookGroup old new at end tiles
group_still old mid new at end tiles none so = subst (λ (left : Option (List ℕ)). TookGroup old left at end tiles) (sym (same mid none)) so
  where
    same : (before : Option (List ℕ)) → TookRaw before new None → new ≡ before
    same None took = took
    same (Some left) took = took.1 ∙ sym (ap Some took.0)

-- no byte is left behind them
pub group_last : (mid new : Option (List ℕ)) → TookRaw mid new None → IsAtEnd new
group_last None new took = subst IsAtEnd (sym took) tt
group_last (Some left) new took = subst IsAtEnd (sym took.1) refl

-- what is wrong behind some tiles is the first fault of all
pub group_told : (old mid : Option (List ℕ)) (at end : ℕ) (tiles : List TileRec) (stop : RawStop) → TookGroup old mid at end tiles → IsToldRaw mid end stop → IsToldStream old at stop
group_told None mid at end tiles (Fault f) so told = tt
group_told None mid at end tiles Source so told = tt
group_told None mid at end tiles OutOfMemory so told = tt
group_told (Some left) mid at end tiles Source so told = tt
group_told (Some left) mid at end tiles OutOfMemory so told = tt
group_told (Some left) mid at end tiles (Fault f) so told =
    let rest = so.took.0 in
    behind rest so.took.1.0 (subst (λ (o : Option (List ℕ)). IsToldRaw o end (Fault f)) so.took.1.1 told)
  where
    behind : (rest : List ℕ) → left ≡ so.bytes ++ rest → IsToldRaw (Some rest) end (Fault f) → IsToldStream (Some left) at (Fault f)
    behind rest joined (more, (p, (place, wrong_))) = (
      length so.bytes + p,
      (
        omega (arith, place, so.end_is),
        record {
          tiles = tiles;
          rest = rest;
          begins = record { front = so.bytes; joined = joined; stream = so.stream };
          more = more;
          next = (p, (refl, wrong_));
        },
      ),
    )

-- ---- all groups

-- so many groups of 64 were read and put, and nothing was taken behind them
pub record ImportsSoFar (count at : ℕ) (left_old left : Option (List ℕ)) (s : SessionState) (told told_now : Bool) (old now : History) (held_old held : Option (List ℕ)) : Type 0 where
  pub tiles : List TileRec
  pub marks : List ℕ
  pub many : length tiles ≡ 64 * count
  pub took : TookGroup left_old left 0 at tiles
  pub same : told_now ≡ told
  pub whole : PutWhole tiles marks s told old now held_old held

-- the bytes that a group took, behind those of the groups before
both_took : (old mid new : Option (List ℕ)) (at end : ℕ) (us ys : List TileRec) → TookGroup old mid 0 at us → TookGroup mid new at end ys → TookGroup old new 0 end (us ++ ys)
both_took old mid new at end us ys one two = record {
  bytes = one.bytes ++ two.bytes;
  stream = stream_join one.bytes two.bytes us ys one.stream two.stream;
  took = took_join old mid new one.bytes two.bytes one.took two.took;
  end_is = omega (arith, one.end_is, two.end_is, length-append one.bytes two.bytes);
}

-- the bytes of the source begin with the tiles that were taken
pub starts : (old new : Option (List ℕ)) (at : ℕ) (tiles : List TileRec) (stop : ImportStop) → ((f : RawFault) → stop ≡ stops.Stream f → ⊥) → TookGroup old new 0 at tiles → ReadsStream (let r : ImportEnd = Err stop in r) old tiles
starts None new at tiles stop other so = tt
starts (Some left) new at tiles (stops.Stream f) other so = absurd (other f refl)
starts (Some left) new at tiles stops.Source other so = (so.took.0, record { front = so.bytes; joined = so.took.1.0; stream = so.stream })
starts (Some left) new at tiles stops.Output other so = (so.took.0, record { front = so.bytes; joined = so.took.1.0; stream = so.stream })
starts (Some left) new at tiles stops.Volume other so = (so.took.0, record { front = so.bytes; joined = so.took.1.0; stream = so.stream })
starts (Some left) new at tiles stops.OutOfMemory other so = (so.took.0, record { front = so.bytes; joined = so.took.1.0; stream = so.stream })
starts (Some left) new at tiles (stops.Full len) other so = (so.took.0, record { front = so.bytes; joined = so.took.1.0; stream = so.stream })
starts (Some left) new at tiles stops.TooManyTiles other so = (so.took.0, record { front = so.bytes; joined = so.took.1.0; stream = so.stream })

-- they are all that it has
ends : (old new : Option (List ℕ)) (at : ℕ) (tiles : List TileRec) → IsAtEnd new → TookGroup old new 0 at tiles → ReadsStream (let r : ImportEnd = Ok tt in r) old tiles
ends None new at tiles end so = tt
ends (Some left) new at tiles end so =
    let none : so.took.0 ≡ [] = ended new so.took.0 end so.took.1.1 in
    subst (λ (l : List ℕ). IsRawStream l tiles) (sym (so.took.1.0 ∙ ap (λ (u : List ℕ). so.bytes ++ u) none ∙ append-nil so.bytes)) so.stream

-- a stream that is none is told by its first fault
faulty : (old mid : Option (List ℕ)) (at : ℕ) (tiles : List TileRec) (f : RawFault) → TookGroup old mid 0 at tiles → IsToldStream mid at (Fault f) → ReadsStream (let r : ImportEnd = Err (stops.Stream f) in r) old tiles
faulty None mid at tiles f so told = tt
faulty (Some left) mid at tiles f so told =
    let rest = so.took.0 in
    behind rest so.took.1.0 (subst (λ (o : Option (List ℕ)). IsToldStream o at (Fault f)) so.took.1.1 told)
  where
    behind : (rest : List ℕ) → left ≡ so.bytes ++ rest → IsToldStream (Some rest) at (Fault f) → ReadsStream (let r : ImportEnd = Err (stops.Stream f) in r) (Some left) tiles
    behind rest joined (place, (is, fault)) =
        let more = fault.begins in
        let whole : left ≡ (so.bytes ++ more.front) ++ fault.rest = joined ∙ ap (λ (u : List ℕ). so.bytes ++ u) more.joined ∙ sym (append_assoc so.bytes more.front fault.rest) in
        let first : IsStreamFault left f = record {
          tiles = tiles ++ fault.tiles;
          rest = fault.rest;
          begins = record { front = so.bytes ++ more.front; joined = whole; stream = stream_join so.bytes more.front tiles fault.tiles so.stream more.stream };
          more = fault.more;
          next = (fault.next.0, (omega (arith, is, so.end_is, fault.next.1.0, length-append so.bytes more.front), fault.next.1.1));
        } in
        (first, (rest, record { front = so.bytes; joined = joined; stream = so.stream }))

module _ (count at : ℕ) (left_old left : Option (List ℕ)) (s : SessionState) (told told_now : Bool) (old now : History) (held_old held : Option (List ℕ)) (so : ImportsSoFar count at left_old left s told told_now old now held_old held) where
  -- the next group could not be read
  pub read_stopped : (stop : RawStop) → IsToldStream left at stop → Imports (Err (read_stop_of stop)) s told old now left_old held_old held
  read_stopped (Fault f) is = record { tiles = so.tiles; marks = so.marks; reads = faulty left_old left at so.tiles f so.took is; groups = (count, so.many); puts = so.whole.puts }
  read_stopped Source is = record { tiles = so.tiles; marks = so.marks; reads = starts left_old left at so.tiles stops.Source (λ f no. cc) so.took; groups = (count, so.many); puts = so.whole.puts }
  read_stopped OutOfMemory is = record { tiles = so.tiles; marks = so.marks; reads = starts left_old left at so.tiles stops.OutOfMemory (λ f no. cc) so.took; groups = (count, so.many); puts = so.whole.puts }

  -- there are too many
  pub many_stopped : count ≡ 2 ^ 32 → Imports (Err stops.TooManyTiles) s told old now left_old held_old held
  many_stopped is = record { tiles = so.tiles; marks = so.marks; reads = starts left_old left at so.tiles stops.TooManyTiles (λ f no. cc) so.took; groups = omega (arith, so.many, is); puts = so.whole.puts }

  module _ (group : Group) (next : Option (List ℕ)) (read : IsGroup left next at group) (s_new : SessionState) (new : History) (held_new : Option (List ℕ)) where
    took : TookGroup left_old next 0 group.end (so.tiles ++ group.tiles.items)
    took = both_took left_old left next at group.end so.tiles group.tiles.items so.took read.took

    joined : (end : PutEnd) (marks : List ℕ) → PutsEnd end group.tiles.items marks s_new told_now now new held held_new → PutsEnd end (so.tiles ++ group.tiles.items) (so.marks ++ marks) s_new told old new held_old held_new
    joined end marks puts = puts_both so.tiles group.tiles.items so.marks marks s s_new told old now new held_old held held_new so.whole end (subst (λ (b : Bool). PutsEnd end group.tiles.items marks s_new b now new held held_new) so.same puts)

    -- the group was not put whole, or its lines were not given
    pub put_stopped : (stop : ImportStop) → IsPutStop stop → PutsGroup (Err stop) group.tiles.items s s_new told_now now new held held_new → Imports (Err stop) s_new told old new left_old held_old held_new
    put_stopped (stops.Stream f) is puts = absurd is
    put_stopped stops.Source is puts = absurd is
    put_stopped stops.TooManyTiles is puts = absurd is
    put_stopped stops.OutOfMemory is (state, (history, given)) =
        subst (λ (h : Option (List ℕ)). Imports (Err stops.OutOfMemory) s_new told old new left_old held_old h) (sym given)
        (subst (λ (h : History). Imports (Err stops.OutOfMemory) s_new told old h left_old held_old held) (sym history)
        (subst (λ (x : SessionState). Imports (Err stops.OutOfMemory) x told old now left_old held_old held) (sym state)
        (record { tiles = so.tiles; marks = so.marks; reads = starts left_old left at so.tiles stops.OutOfMemory (λ f no. cc) so.took; groups = (count, so.many); puts = so.whole.puts })))
    put_stopped stops.Output is (marks, puts) = record { tiles = so.tiles ++ group.tiles.items; marks = so.marks ++ marks; reads = starts left_old next group.end _ stops.Output (λ f no. cc) took; groups = tt; puts = joined _ marks puts }
    put_stopped stops.Volume is (marks, puts) = record { tiles = so.tiles ++ group.tiles.items; marks = so.marks ++ marks; reads = starts left_old next group.end _ stops.Volume (λ f no. cc) took; groups = tt; puts = joined _ marks puts }
    put_stopped (stops.Full len) is (marks, puts) = record { tiles = so.tiles ++ group.tiles.items; marks = so.marks ++ marks; reads = starts left_old next group.end _ (stops.Full len) (λ f no. cc) took; groups = tt; puts = joined _ marks puts }

    module _ (marks : List ℕ) (puts : PutsEnd (Ok tt) group.tiles.items marks s_new told_now now new held held_new) where
      -- it was the last
      pub ended_well : length group.tiles.items < 64 → Imports (Ok tt) s_new told old new left_old held_old held_new
      ended_well fewer = record { tiles = so.tiles ++ group.tiles.items; marks = so.marks ++ marks; reads = ends left_old next group.end _ (read.last fewer) took; groups = tt; puts = joined (Ok tt) marks puts }

      -- or one of 64, behind which there may be more
      pub imports_more : (told_new : Bool) → told_new ≡ told_now → 64 ≤ length group.tiles.items → ImportsSoFar (count + 1) group.end left_old next s_new told told_new old new held_old held_new
      imports_more told_new same enough =
          let full : length group.tiles.items ≡ 64 = omega (arith, enough, read.most) in
          record {
            tiles = so.tiles ++ group.tiles.items;
            marks = so.marks ++ marks;
            many = omega (arith, so.many, full, length-append so.tiles group.tiles.items);
            took = took;
            same = same ∙ so.same;
            whole = whole_more so.tiles group.tiles.items so.marks marks s s_new told old now new held_old held held_new so.whole
                (subst (λ (b : Bool). PutsEnd (Ok tt) group.tiles.items marks s_new b now new held held_new) so.same puts) full (stream_in read.took.bytes group.tiles.items read.took.stream);
          }

-- ---- a group, as it is put

-- how puts end is how the group's puts do
pub puts_as : (stop : PutStop) (tiles : List TileRec) (marks : List ℕ) (s s_new : SessionState) (told : Bool) (old new : History) (held held_new : Option (List ℕ)) → PutsEnd (Err stop) tiles marks s_new told old new held held_new → PutsGroup (Err (put_stop_of stop)) tiles s s_new told old new held held_new
puts_as put.Output tiles marks s s_new told old new held held_new ended = (marks, ended)
puts_as put.Volume tiles marks s s_new told old new held held_new ended = (marks, ended)
puts_as (put.Full len) tiles marks s s_new told old new held held_new ended = (marks, ended)

pub is_put : (stop : PutStop) → IsPutStop (put_stop_of stop)
is_put put.Output = tt
is_put put.Volume = tt
is_put (put.Full len) = tt

pub output_as : (stop : PutStop) (old new : ℕ) → IsCause (let e : PutEnd = Err stop in e ≡ Err put.Output) old new → IsCause (let e : ImportEnd = Err (put_stop_of stop) in e ≡ Err stops.Output) old new
output_as put.Output old new c = record { counts = c.counts; failed = λ is. c.failed refl; rose = λ rose. refl }
output_as put.Volume old new c = record { counts = c.counts; failed = λ is. absurd (let no : ⊥ = cc in no); rose = λ rose. absurd (let no = c.rose rose in cc) }
output_as (put.Full len) old new c = record { counts = c.counts; failed = λ is. absurd (let no : ⊥ = cc in no); rose = λ rose. absurd (let no = c.rose rose in cc) }

pub volume_as : (stop : PutStop) (old new : ℕ) → IsCause (let e : PutEnd = Err stop in e ≡ Err put.Volume) old new → IsCause (let e : ImportEnd = Err (put_stop_of stop) in e ≡ Err stops.Volume) old new
volume_as put.Volume old new c = record { counts = c.counts; failed = λ is. c.failed refl; rose = λ rose. refl }
volume_as put.Output old new c = record { counts = c.counts; failed = λ is. absurd (let no : ⊥ = cc in no); rose = λ rose. absurd (let no = c.rose rose in cc) }
volume_as (put.Full len) old new c = record { counts = c.counts; failed = λ is. absurd (let no : ⊥ = cc in no); rose = λ rose. absurd (let no = c.rose rose in cc) }

-- a source that failed, as the import's end
pub source_as : (stop : RawStop) (old new : ℕ) → CountsRawStop (let r : Result (Unit {0}) RawStop = Err stop in r) old new → IsCause (let e : ImportEnd = Err (read_stop_of stop) in e ≡ Err stops.Source) old new
source_as (Fault f) old new same = record { counts = omega (arith, same); failed = λ is. absurd (let no : ⊥ = cc in no); rose = λ rose. absurd (let no : ⊥ = omega (arith, rose, same) in no) }
source_as Source old new counts = record { counts = counts.0; failed = λ is. counts.1; rose = λ rose. refl }
source_as OutOfMemory old new same = record { counts = omega (arith, same); failed = λ is. absurd (let no : ⊥ = cc in no); rose = λ rose. absurd (let no : ⊥ = omega (arith, rose, same) in no) }
