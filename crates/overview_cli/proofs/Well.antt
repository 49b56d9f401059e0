-- What a run that ends well leaves, and what the output and the second bundle are behind others.
use Rattle.std.proofs.Common.{◌≡◌, ℕ, List, [], ◌∷◌, length, take, Option, Ok, Err, refl, sym, subst, ◌∙◌, arith}
use Rattle.std.specs.Prelude.{OnOk}
use Rattle.std.proofs.lemmas.List.{take_all}
use Rattle.outside_io.specs.declared.volume.VolFile.TheVariants.{Journal}
use Rattle.outside_io.specs.streams.Sink.{Holds}
use Rattle.outside_io.specs.volume.History.{contents, current}
use Rattle.bundle_store.specs.declared.tile_rec.TileRec.{TileRec}
use Rattle.bundle_store.specs.Build.{map_after}
use Rattle.bundle_store.specs.Images.{EachImage}
use Rattle.bundle_store.specs.Tiles.{TileMap}
use Rattle.opened_bundle.specs.Files.{Files}
use Rattle.opened_bundle.specs.Left.{IsReady}
use Rattle.bundle_store.specs.Starts.{KeepsStart}
use Rattle.program_ends.specs.Moves.{SinkMove, VolumeMove}
use Rattle.program_ends.specs.Stop.{Gained}
use Rattle.program_ends.specs.declared.stop.Stop.TheVariants.{Usage, Source, Output, Volume, OutOfMemory, Refused}
use Rattle.overview_cli.specs.Names.{End, status_at}
use Rattle.overview_cli.specs.Putting.{PutsAnswer, Rests, StopsUnopened}
use Rattle.overview_cli.specs.Run.{Ends, OfCommand, PutsOverview, files_at}
use Rattle.overview_cli.specs.Taking.{Taken, TakesOverview}
use Rattle.overview_cli.specs.declared.refusal.Refusal.{Refusal}
use Rattle.overview_cli.specs.declared.refusal.Refusal.TheVariants.{BadTile, Unlike, DepthNeedsV4, TileTooLarge, KeptTooMuch, Store}
use Rattle.overview_cli.specs.declared.words.Command.{Command}
use Rattle.overview_cli.proofs.Runs.{kept_same}

-- ---- status 0

pub puts_well : (c : Command) (end : End) (marks : List ℕ) (from to : VolumeMove) (out : SinkMove) → OfCommand c end marks from to out → end ≡ Ok tt → PutsOverview c marks from to out
puts_well c end marks from to out did is = by did.taken did.takes did.ends
  where
    by : (taken : Taken) → TakesOverview c (files_at from) taken → Ends taken end marks to out → PutsOverview c marks from to out
    by (Err stop) takes (same, rest) = absurd (let no : ◌≡◌ {A = End} (Ok tt) (Err stop) = sym is ∙ same in cc)
    by (Ok updates) takes (puts, output) =
        let answer : PutsAnswer updates.items (files_at to) (length marks) (Ok tt) output.gave.0 = subst (λ (e : End). PutsAnswer updates.items (files_at to) (length marks) e output.gave.0) is output.gave.1.0 in
        let gained : Gained {R = Refusal} (Ok tt) out.held output.gave.0 = subst (λ (e : End). Gained e out.held output.gave.0) is output.gave.1.1 in
        record {
          updates = updates.items;
          of = takes.0;
          near = takes.1;
          all = answer.0;
          lines = subst (λ (o : List ℕ). Holds out.held.old out.held.new o) answer.2 gained;
          stands = λ told start is_start.
              let Left : List TileRec → Type 0 = λ us. EachImage (λ map. map ≡ map_after start us) (current to.history.new) in
              let each : Left (take (length marks) updates.items) = subst (λ (e : End). OnOk e (Left (take (length marks) updates.items))) is (puts.done told start is_start) in
              subst Left (take_all (length marks) updates.items (omega (arith, answer.0))) each;
          shut = λ told. (let rests : Rests (Ok tt) (contents Journal to.history.old) (current to.history.new) = subst (λ (e : End). Rests e (contents Journal to.history.old) (current to.history.new)) is (puts.rests told) in rests);
        }

-- ---- status 2

-- the status of a refusal of putting is 7
not_two : (us : List TileRec) (files : Option Files) (n : ℕ) (end : End) (output : List ℕ) → PutsAnswer us files n end output → status_at end ≡ 2 → ⊥
not_two us files n (Ok x) output answer two = omega (arith, two)
not_two us files n (Err Usage) output answer two = answer
not_two us files n (Err Source) output answer two = answer
not_two us files n (Err Output) output answer two = omega (arith, two)
not_two us files n (Err Volume) output answer two = omega (arith, two)
not_two us files n (Err OutOfMemory) output answer two = omega (arith, two)
not_two us files n (Err (Refused (Store why))) output answer two = omega (arith, two)
not_two us files n (Err (Refused (BadTile row col fault))) output answer two = answer
not_two us files n (Err (Refused (Unlike row col))) output answer two = answer
not_two us files n (Err (Refused (DepthNeedsV4 row col))) output answer two = answer
not_two us files n (Err (Refused (TileTooLarge at len))) output answer two = answer
not_two us files n (Err (Refused (KeptTooMuch at))) output answer two = answer

pub record Untouched (marks : List ℕ) (to : VolumeMove) (out : SinkMove) : Type 0 where
  pub output : out.same
  pub second : to.same
  pub none : marks ≡ []

pub untouched : (c : Command) (end : End) (marks : List ℕ) (from to : VolumeMove) (out : SinkMove) → OfCommand c end marks from to out → status_at end ≡ 2 → Untouched marks to out
untouched c end marks from to out did two = by did.taken did.ends
  where
    by : (taken : Taken) → Ends taken end marks to out → Untouched marks to out
    by (Ok updates) (puts, output) = absurd (not_two updates.items (files_at to) (length marks) end output.gave.0 output.gave.1.0 two)
    by (Err stop) (same, (none, (left, kept))) = record { output = kept; second = left; none = none }

-- ---- status 6

pub record Wanted (marks : List ℕ) (to : VolumeMove) (out : SinkMove) : Type 0 where
  pub output : out.same
  pub none : marks ≡ []
  pub keeps : (start : TileMap) → IsReady to.told.old to.history.old start → KeepsStart to.history.old to.history.new

no_marks : (marks : List ℕ) → length marks ≡ 0 → marks ≡ []
no_marks [] none = refl
no_marks (m ∷ marks) none = absurd (let no : ⊥ = omega (arith, none) in no)

pub wanted : (c : Command) (end : End) (marks : List ℕ) (from to : VolumeMove) (out : SinkMove) → OfCommand c end marks from to out → (to.same → to.history.new ≡ to.history.old) → end ≡ Err OutOfMemory → Wanted marks to out
wanted c end marks from to out did unmoved is = by did.taken did.ends
  where
    by : (taken : Taken) → Ends taken end marks to out → Wanted marks to out
    by (Ok updates) (puts, output) =
        let answer : PutsAnswer updates.items (files_at to) (length marks) (Err OutOfMemory) output.gave.0 = subst (λ (e : End). PutsAnswer updates.items (files_at to) (length marks) e output.gave.0) is output.gave.1.0 in
        let stops : StopsUnopened end = subst StopsUnopened (sym is) tt in
        record { output = output.idle stops; none = no_marks marks answer.0; keeps = puts.none stops }
    by (Err stop) (same, (none, (left, kept))) = record { output = kept; none = none; keeps = λ start ready. kept_same to start unmoved ready left }
