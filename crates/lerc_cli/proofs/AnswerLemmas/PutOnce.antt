-- One answer of `put`.
use Rattle.std.proofs.Common.{◌≡◌, inl, inr, ℕ, ◌<◌, List, length, take, Some, Err, refl, sym, ◌∙◌, ap, subst, arith}
use Rattle.std.proofs.lemmas.Bool.{cases_lt}
use Rattle.lerc_header.specs.declared.header.Version.{Version}
use Rattle.lerc_header.specs.Written.{step_of}
use Rattle.bundle_store.specs.declared.tile_rec.TileRec.{TileRec}
use Rattle.bundle_lines.specs.Lines.{put_lines}
use Rattle.bundle_lines.specs.Puts.{HaveRoom, IsFirstFull, length_before}
use Rattle.tile_updates.specs.declared.stop.StreamStop.{StreamStop}
use Rattle.tile_updates.specs.declared.stop.StreamStop.TheVariants.{TooManyTiles as ManyTiles, Fault as TileFaultOf, DepthNeedsV4 as DeepTile, TileTooLarge as LargeTile, KeptTooMuch as MuchKept, Source as StreamSource, OutOfMemory as StreamMemory}
use Rattle.tile_updates.specs.Stops.{IsStreamStop, TellsStop}
use Rattle.tile_updates.proofs.Refusals.{stops_once, updates_once, updates_or_stop}
use Rattle.lerc_cli.specs.declared.words.Command.TheVariants.{Put}
use Rattle.opened_bundle.specs.declared.refusal.StoreRefusal.{StoreRefusal}
use Rattle.opened_bundle.specs.declared.refusal.StoreRefusal.TheVariants.{Full}
use Rattle.program_ends.specs.declared.stop.Stop.{Stop}
use Rattle.lerc_cli.specs.declared.refusal.Refusal.{Refusal}
use Rattle.program_ends.specs.declared.stop.Stop.TheVariants.{Refused, Source, OutOfMemory}
use Rattle.lerc_cli.specs.declared.refusal.Refusal.TheVariants.{Input, Store, Stream}
use Rattle.opened_bundle.specs.Files.{Files}
use Rattle.lerc_cli.specs.inputs.Given.{Given, given}
use Rattle.lerc_cli.specs.answers.Table.{Answers, IsOutput, IsPutSoFar, IsRefusal}
use Rattle.lerc_cli.specs.inputs.Refused.{stream_stop_of}
use Rattle.lerc_cli.proofs.AnswerLemmas.Answered.{Once, refusal_of, refused, well}
use Rattle.opened_bundle.proofs.OneBundle.{both, one_opening, recovered_or_opening}

-- all is told
abbrev pub all_told : List ℕ → Files → Given
all_told bytes f = given (Some bytes) (Some f)

-- a stop of the bytes alone
of_bytes : (v : Version) (step : ℕ) (bytes : List ℕ) (s : StreamStop) → (stream_stop_of s ≡ Source → ⊥) → (stream_stop_of s ≡ OutOfMemory → ⊥) → TellsStop v step (Some bytes) s → IsStreamStop v step bytes s
of_bytes v step bytes ManyTiles source memory tells = tells
of_bytes v step bytes (TileFaultOf f) source memory tells = tells
of_bytes v step bytes (DeepTile at) source memory tells = tells
of_bytes v step bytes (LargeTile at len) source memory tells = tells
of_bytes v step bytes (MuchKept at) source memory tells = tells
of_bytes v step bytes StreamSource source memory tells = absurd (source refl)
of_bytes v step bytes StreamMemory source memory tells = absurd (memory refl)

-- the stop is one of the command, and not of a source that failed or of want of memory
pub record IsOwn (stop : Stop Refusal) : Type 0 where
  pub source : stop ≡ Source → ⊥
  pub memory : stop ≡ OutOfMemory → ⊥

pub own_bytes : (v : Version) (step : ℕ) (bytes : List ℕ) (stop : Stop Refusal) (s : StreamStop) → IsOwn stop → stop ≡ stream_stop_of s → TellsStop v step (Some bytes) s → IsStreamStop v step bytes s
own_bytes v step bytes stop s own is tells = of_bytes v step bytes s (λ same. own.source (is ∙ same)) (λ same. own.memory (is ∙ same)) tells

-- ---- room

first_once : (b : List ℕ) (us : List TileRec) (n m l k : ℕ) → IsFirstFull b us n l → IsFirstFull b us m k → n < m → ⊥
first_once b us n m l k one two less = let room = two.before n less in omega (arith, one.len_is, one.full, room)

one_full : (b : List ℕ) (us : List TileRec) (n m l k : ℕ) → IsFirstFull b us n l → IsFirstFull b us m k → (n ≡ m) × (l ≡ k)
one_full b us n m l k one two = elim (cases_lt n m) [
  | inl less ↦ absurd (first_once b us n m l k one two less)
  | inr after ↦ elim (cases_lt m n) [
    | inl more ↦ absurd (first_once b us m n k l two one more)
    | inr same ↦ (let e : n ≡ m = omega (arith, after, same) in (e, one.len_is ∙ ap (length_before b us) e ∙ sym two.len_is))
  ]
]

-- ---- one refusal

pub one_put_refusal : (v : Version) (e w : ℕ) (bytes : List ℕ) (f : Files) (n m : ℕ) (stop other : Stop Refusal) → IsOwn stop → IsOwn other
    → IsRefusal (Put v e w) (all_told bytes f) n stop → IsRefusal (Put v e w) (all_told bytes f) m other → (stop ≡ other) × (n ≡ m)
one_put_refusal v e w bytes f n m stop other own its (inl (zero, (s, (is, tells)))) (inl (none, (t, (so, told)))) =
    let same = stops_once v (step_of e) bytes s t (own_bytes v (step_of e) bytes stop s own is tells) (own_bytes v (step_of e) bytes other t its so told) in
    (is ∙ ap stream_stop_of same ∙ sym so, zero ∙ sym none)
one_put_refusal v e w bytes f n m stop other own its (inl (zero, (s, (is, tells)))) (inr (inl (none, (us, (of, rest))))) =
    absurd (updates_or_stop v (step_of e) bytes us s of (own_bytes v (step_of e) bytes stop s own is tells))
one_put_refusal v e w bytes f n m stop other own its (inl (zero, (s, (is, tells)))) (inr (inr (len, (so, (us, rest))))) =
    absurd (updates_or_stop v (step_of e) bytes us s rest.0 (own_bytes v (step_of e) bytes stop s own is tells))
one_put_refusal v e w bytes f n m stop other own its (inr (inl (zero, (us, (of, rest))))) (inl (none, (t, (so, told)))) =
    absurd (updates_or_stop v (step_of e) bytes us t of (own_bytes v (step_of e) bytes other t its so told))
one_put_refusal v e w bytes f n m stop other own its (inr (inl (zero, (us, (of, (r, (is, opening))))))) (inr (inl (none, (vs, (from, (s, (so, closing))))))) =
    (is ∙ ap (λ (x : StoreRefusal). Refused (Store x)) (one_opening f r s opening closing) ∙ sym so, zero ∙ sym none)
one_put_refusal v e w bytes f n m stop other own its (inr (inl (zero, (us, (of, (r, (is, opening))))))) (inr (inr (len, (so, (vs, (from, less, full, first)))))) =
    absurd (recovered_or_opening f (λ b. IsFirstFull b vs m len) r first opening)
one_put_refusal v e w bytes f n m stop other own its (inr (inr (len, (is, (us, rest))))) (inl (none, (t, (so, told)))) =
    absurd (updates_or_stop v (step_of e) bytes us t rest.0 (own_bytes v (step_of e) bytes other t its so told))
one_put_refusal v e w bytes f n m stop other own its (inr (inr (len, (is, (us, (of, less, full, first)))))) (inr (inl (none, (vs, (from, (s, (so, closing))))))) =
    absurd (recovered_or_opening f (λ b. IsFirstFull b us n len) s first closing)
one_put_refusal v e w bytes f n m stop other own its (inr (inr (len, (is, (us, (of, less, full, first)))))) (inr (inr (size, (so, (vs, (from, fewer, packed, second)))))) =
    let same = updates_once v (step_of e) bytes us vs of from in
    let there = both f (λ b. IsFirstFull b us n len) (λ b. IsFirstFull b vs m size) first second in
    let at = one_full there.0 us n m len size there.1.0 (subst (λ (x : List TileRec). IsFirstFull there.0 x m size) (sym same) there.1.1) in
    (is ∙ ap (λ (x : ℕ). Refused (Store (Full x))) at.1 ∙ sym so, at.0)

pub put_or_refusal : (v : Version) (e w : ℕ) (bytes : List ℕ) (f : Files) (n m : ℕ) (output : List ℕ) (stop : Stop Refusal) → IsOwn stop
    → IsOutput (Put v e w) (all_told bytes f) n output → IsRefusal (Put v e w) (all_told bytes f) m stop → ⊥
put_or_refusal v e w bytes f n m output stop own (us, rest) (inl (none, (t, (so, told)))) = updates_or_stop v (step_of e) bytes us t rest.0 (own_bytes v (step_of e) bytes stop t own so told)
put_or_refusal v e w bytes f n m output stop own (us, (of, all, room, is)) (inr (inl (none, (vs, (from, (s, (so, closing))))))) = recovered_or_opening f (λ b. HaveRoom b us n) s room closing
put_or_refusal v e w bytes f n m output stop own (us, (of, all, room, is)) (inr (inr (size, (so, (vs, (from, fewer, packed, second)))))) =
    let same = updates_once v (step_of e) bytes us vs of from in
    let there = both f (λ b. HaveRoom b us n) (λ b. IsFirstFull b vs m size) room second in
    let first : IsFirstFull there.0 us m size = subst (λ (x : List TileRec). IsFirstFull there.0 x m size) (sym same) there.1.1 in
    let less : m < n = omega (arith, all, ap length same, fewer) in
    let fits = there.1.0 m less in
    omega (arith, first.len_is, first.full, fits)

-- ---- one output

-- what was given where the program refuses
so_far : (v : Version) (e w : ℕ) (g : Given) (n : ℕ) (r : Refusal) (output : List ℕ) → Answers (Put v e w) g n (Err (Refused r)) output → IsPutSoFar (Put v e w) g n output
so_far v e w g n (Store refusal) output a = a.1
so_far v e w g n (Input fault) output (inl (zero, rest), none) = inl (zero, none)
so_far v e w g n (Input fault) output (inr (inl (zero, rest)), none) = inl (zero, none)
so_far v e w g n (Input fault) output (inr (inr (len, (is, rest))), none) = absurd (let bad : ⊥ = cc in bad)
so_far v e w g n (Stream refusal) output (inl (zero, rest), none) = inl (zero, none)
so_far v e w g n (Stream refusal) output (inr (inl (zero, rest)), none) = inl (zero, none)
so_far v e w g n (Stream refusal) output (inr (inr (len, (is, rest))), none) = absurd (let bad : ⊥ = cc in bad)

cut_once : (v : Version) (e w : ℕ) (bytes : List ℕ) (f : Files) (n : ℕ) (output another : List ℕ)
    → IsPutSoFar (Put v e w) (all_told bytes f) n output → IsPutSoFar (Put v e w) (all_told bytes f) n another → output ≡ another
cut_once v e w bytes f n output another (inl (zero, is)) (inl (none, so)) = is ∙ sym so
cut_once v e w bytes f n output another (inl (zero, is)) (inr (us, (of, within, so))) = is ∙ sym (so ∙ ap (λ (k : ℕ). put_lines (take k us)) zero)
cut_once v e w bytes f n output another (inr (us, (of, within, is))) (inl (none, so)) = is ∙ ap (λ (k : ℕ). put_lines (take k us)) none ∙ sym so
cut_once v e w bytes f n output another (inr (us, (of, within, is))) (inr (vs, (from, inside, so))) =
    is ∙ ap (λ (x : List TileRec). put_lines (take n x)) (updates_once v (step_of e) bytes us vs of from) ∙ sym so

pub own_refused : (r : Refusal) → IsOwn (Refused r)
own_refused r = record { source = λ is. cc; memory = λ is. cc }

pub put_once : (v : Version) (e w : ℕ) (bytes : List ℕ) (f : Files) → Once (Put v e w) (all_told bytes f)
put_once v e w bytes f n m well well output another a b =
    (refl, a.1.3 ∙ ap put_lines (updates_once v (step_of e) bytes a.0 b.0 a.1.0 b.1.0) ∙ sym b.1.3)
put_once v e w bytes f n m well (refused s) output another a b =
    absurd (put_or_refusal v e w bytes f n m output (Refused s) (own_refused s) a (refusal_of (Put v e w) (all_told bytes f) m s another b))
put_once v e w bytes f n m (refused r) well output another a b =
    absurd (put_or_refusal v e w bytes f m n another (Refused r) (own_refused r) b (refusal_of (Put v e w) (all_told bytes f) n r output a))
put_once v e w bytes f n m (refused r) (refused s) output another a b =
    let same =
    one_put_refusal v e w bytes f n m (Refused r) (Refused s) (own_refused r) (own_refused s) (refusal_of (Put v e w) (all_told bytes f) n r output a) (refusal_of (Put v e w) (all_told bytes f) m s another b) in (
      ap (λ (x : Stop Refusal). Err x) same.0,
      cut_once v e w bytes f n output another (so_far v e w (all_told bytes f) n r output a)
          (subst (λ (k : ℕ). IsPutSoFar (Put v e w) (all_told bytes f) k another) (sym same.1) (so_far v e w (all_told bytes f) m s another b)),
    )
