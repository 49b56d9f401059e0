-- How a run ends, by what its command left.
use Rattle.std.proofs.Common.{◌≡◌, inl, inr, ℕ, List, length, Option, Ok, Err, refl, sym, subst, ◌∙◌, arith}
use Rattle.outside_io.specs.streams.Faults.{IsCause}
use Rattle.program_ends.specs.Moves.{Change, SinkMove, VolumeMove}
use Rattle.program_ends.specs.Stop.{IsRefusalStatus}
use Rattle.program_ends.specs.declared.stop.Stop.{Stop}
use Rattle.program_ends.specs.declared.stop.Stop.TheVariants.{Usage, Source}
use Rattle.opened_bundle.specs.Files.{Files}
use Rattle.opened_bundle.specs.Left.{IsReady}
use Rattle.bundle_store.specs.Starts.{KeepsStart}
use Rattle.outside_io.specs.volume.History.{History}
use Rattle.bundle_store.specs.declared.tile_rec.TileRec.{TileRec}
use Rattle.bundle_store.specs.Tiles.{TileMap}
use Rattle.overview_cli.specs.Names.{End, refusal_status}
use Rattle.overview_cli.specs.Putting.{PutsAnswer}
use Rattle.overview_cli.specs.Run.{Ends, IsVolumeCause, KeepsOverview, OfCommand, files_at}
use Rattle.overview_cli.specs.Taking.{Taken, TakesOverview}
use Rattle.overview_cli.specs.declared.refusal.Refusal.{Refusal}
use Rattle.overview_cli.specs.declared.refusal.Refusal.TheVariants.{BadTile, Unlike, DepthNeedsV4, TileTooLarge, KeptTooMuch, Store}
use Rattle.overview_cli.specs.declared.words.Command.{Command}
use Rattle.opened_bundle.proofs.Standing.{idle_keeps}

pub own : (r : Refusal) → IsRefusalStatus (refusal_status r)
own (BadTile row col fault) = inl refl
own (Unlike row col) = inl refl
own (DepthNeedsV4 row col) = inl refl
own (TileTooLarge at len) = inr (omega arith)
own (KeptTooMuch at) = inr (omega arith)
own (Store refusal) = inr (omega arith)

-- neither reading nor putting ends in one of these
pub record IsNoEnd (stop : Stop Refusal) : Type 0 where
  pub taking : (c : Command) (files : Option Files) → TakesOverview c files (Err stop) → ⊥
  pub putting : (us : List TileRec) (files : Option Files) (n : ℕ) (output : List ℕ) → PutsAnswer us files n (Err stop) output → ⊥

never : (stop : Stop Refusal) → IsNoEnd stop → (c : Command) (end : End) (marks : List ℕ) (from to : VolumeMove) (out : SinkMove) → OfCommand c end marks from to out → end ≡ Err stop → ⊥
never stop none c end marks from to out did is = by did.taken did.takes did.ends
  where
    by : (taken : Taken) → TakesOverview c (files_at from) taken → Ends taken end marks to out → ⊥
    by (Ok updates) takes (puts, output) = none.putting updates.items (files_at to) (length marks) output.gave.0 (subst (λ (e : End). PutsAnswer updates.items (files_at to) (length marks) e output.gave.0) is output.gave.1.0)
    by (Err other) takes (same, rest) =
        let one : other ≡ stop = (let e : ◌≡◌ {A = End} (Err other) (Err stop) = sym same ∙ is in cc) in
        none.taking c (files_at from) (subst (λ (s : Stop Refusal). TakesOverview c (files_at from) (Err s)) one takes)

pub never_usage : (c : Command) (end : End) (marks : List ℕ) (from to : VolumeMove) (out : SinkMove) → OfCommand c end marks from to out → end ≡ Err Usage → ⊥
never_usage = never Usage (record { taking = λ c files takes. takes; putting = λ us files n output answer. answer })

pub never_source : (c : Command) (end : End) (marks : List ℕ) (from to : VolumeMove) (out : SinkMove) → OfCommand c end marks from to out → end ≡ Err Source → ⊥
never_source = never Source (record { taking = λ c files takes. takes; putting = λ us files n output answer. answer })

-- ---- crashes

-- a volume that is as it was keeps what it stood for
pub kept_same : (to : VolumeMove) (start : TileMap) → (to.same → to.history.new ≡ to.history.old) → IsReady to.told.old to.history.old start → to.same → KeepsStart to.history.old to.history.new
kept_same to start unmoved ready same = subst (λ (h : History). KeepsStart to.history.old h) (sym (unmoved same)) (idle_keeps to.history.old ready.sound)

pub to_keeps : (c : Command) (end : End) (marks : List ℕ) (from to : VolumeMove) (out : SinkMove) (start : TileMap) → OfCommand c end marks from to out → (to.same → to.history.new ≡ to.history.old) → IsReady to.told.old to.history.old start
    → KeepsOverview c (files_at from) marks start to.history.old to.history.new
to_keeps c end marks from to out start did unmoved ready = by did.taken did.takes did.ends
  where
    by : (taken : Taken) → TakesOverview c (files_at from) taken → Ends taken end marks to out → KeepsOverview c (files_at from) marks start to.history.old to.history.new
    by (Ok updates) takes (puts, output) = inr (updates.items, (takes.0, puts.tiles start ready))
    by (Err stop) takes (same, (none, (left, rest))) = inl (none, kept_same to start unmoved ready left)

-- ---- causes

-- the first volume failed, and the second was not called
pub first_failed : (P Q : Type 0) (from : Change ℕ) (to : ℕ) → (P → Q) → (Q → P) → IsCause P from.old from.new → IsVolumeCause Q from (record { old = to; new = to })
first_failed P Q from to there back c = record {
  from_counts = c.counts;
  to_counts = omega arith;
  failed = λ q. inl (c.failed (back q));
  from_rose = λ rose. there (c.rose rose);
  to_rose = λ rose. absurd (omega (arith, rose));
}

-- the first did not, and the second may have
pub second_failed : (P Q : Type 0) (from to : Change ℕ) → (P → ⊥) → IsCause P from.old from.new → IsCause Q to.old to.new → IsVolumeCause Q from to
second_failed P Q from to well first second = record {
  from_counts = first.counts;
  to_counts = second.counts;
  failed = λ q. inr (second.failed q);
  from_rose = λ rose. absurd (well (first.rose rose));
  to_rose = second.rose;
}

pub volume_status : (P Q : Type 0) (from to : Change ℕ) → (P → Q) → (Q → P) → IsVolumeCause P from to → IsVolumeCause Q from to
volume_status P Q from to there back c = record {
  from_counts = c.from_counts;
  to_counts = c.to_counts;
  failed = λ q. c.failed (back q);
  from_rose = λ rose. there (c.from_rose rose);
  to_rose = λ rose. there (c.to_rose rose);
}
