-- Groups that fit behind a bundle.
use Rattle.std.proofs.Common.{◌≡◌, ◌≢◌, ℕ, zero, suc, ◌+◌, ◌-◌, ◌^◌, ◌<◌, ◌≤◌, ◌==◌, if◌then◌else◌, Bool, true, false, List, [], ◌∷◌, ◌++◌, length, take, drop, refl, sym, ap, subst, ◌∙◌, inl, inr, arith, length-drop}
use Rattle.std.proofs.lemmas.Bool.{cases_eq, cases_lt}
use Rattle.std.proofs.lemmas.Bool.Decides.{nat_tests}
use Rattle.std.proofs.lemmas.List.{get_or-drop, get_or-take, length-take-le}
use Rattle.std.proofs.Math.Seq.{take-add}
use Rattle.bundle_store.specs.declared.tile_rec.TileRec.{TileRec}
use Rattle.bundle_store.specs.Appended.{bundle_after_put}
use Rattle.bundle_store.specs.Build.{bytes_at, map_after}
use Rattle.bundle_store.specs.GroupPuts.{AreTilesIn, bundle_after_puts, group_records}
use Rattle.bundle_store.specs.Layout.{layout}
use Rattle.bundle_store.specs.Tiles.{IsReadable, Opens, TileMap, no_tiles, tiles}
use Rattle.bundle_store.proofs.GroupEntries.{puts_on, puts_on_nothing, with_long}
use Rattle.bundle_store.proofs.Layouts.{length-nothing}
use Rattle.bundle_store.proofs.PutLaws.{put_readable, put_replaces}
use Rattle.bundle_lines.specs.Puts.{HaveRoom, IsNextGroup, length_before}
use Rattle.bundle_lines.specs.inside.Turns.{IsFitting, end_of}

pub bundles_join : (b : List ℕ) (xs ys : List TileRec) → bundle_after_puts b (xs ++ ys) ≡ bundle_after_puts (bundle_after_puts b xs) ys
bundles_join b [] ys = refl
bundles_join b (x ∷ xs) ys = bundles_join (bundle_after_put b x.slot x.bytes) xs ys

test_same : (n m : ℕ) → n ≡ m → (n == m) ≡ true
test_same n m is = grind (arith, nat_tests)

test_differ : (n m : ℕ) → n ≢ m → (n == m) ≡ false
test_differ n m differs = grind (arith, nat_tests)

pub end_of_none : (n : ℕ) → n ≡ 0 → end_of n ≡ 131136
end_of_none n none = ap (λ (t : Bool). if t then 131136 else n) (test_same n 0 none)

pub end_of_some : (n : ℕ) → n ≢ 0 → end_of n ≡ n
end_of_some n some = ap (λ (t : Bool). if t then 131136 else n) (test_differ n 0 some)

end_after : (n : ℕ) → n ≤ end_of n
end_after n = elim (cases_eq n 0) [
  | inl none ↦ omega (arith, none, end_of_none n none)
  | inr some ↦ omega (arith, end_of_some n some)
]

-- some tiles make a bundle longer by their records
after_long : (b : List ℕ) (us : List TileRec) → Opens b → 1 ≤ length us → AreTilesIn us → length (bundle_after_puts b us) ≡ end_of (length b) + length (group_records us)
after_long b us opens some are = elim (cases_eq (length b) 0) [
  | inl none ↦ (let long = with_long (layout no_tiles) us (omega (arith, length-nothing)) are in
      ap length (puts_on_nothing b us none some are) ∙ omega (arith, long, length-nothing, end_of_none (length b) none))
  | inr more ↦ elim opens [
    | inl none ↦ absurd (more none)
    | inr index ↦ (let long = with_long b us index.long are in
        ap length (puts_on b us index.long are) ∙ omega (arith, long, end_of_some (length b) more))
  ]
]

tiles_fewer : (us : List TileRec) (i n : ℕ) → i ≤ n → AreTilesIn (take n us) → AreTilesIn (take i us)
tiles_fewer us zero n le are = tt
tiles_fewer [] (suc i) n le are = tt
tiles_fewer (u ∷ us) (suc i) zero le are = absurd (omega (arith, le))
tiles_fewer (u ∷ us) (suc i) (suc n) le are = (are.0, are.1, are.2, tiles_fewer us i n (omega (arith, le)) are.3)

-- none make it no longer
before_long : (b : List ℕ) (us : List TileRec) (i n : ℕ) → Opens b → i ≤ n → n ≤ length us → AreTilesIn (take n us) → length_before b us i ≤ end_of (length b) + length (group_records (take i us))
before_long b us zero n opens le within are = omega (arith, end_after (length b))
before_long b us (suc i) n opens le within are =
    let size = length-take-le (suc i) us (omega (arith, le, within)) in
    let long = after_long b (take (suc i) us) opens (omega (arith, size)) (tiles_fewer us (suc i) n le are) in
    omega (arith, long)

-- there is room for each tile of a group that fits
pub room_of : (b : List ℕ) (us : List TileRec) (n : ℕ) → Opens b → IsFitting (length b) us n → HaveRoom b us n
room_of b us n opens fits i less =
    let long = before_long b us i n opens (omega (arith, less)) fits.within fits.first.tiles in
    omega (arith, long, fits.first.room i less)

-- and once it is put, the bundle is readable, and stands for the tiles with those of the group
pub puts_stand : (n : ℕ) (us : List TileRec) (b : List ℕ) → IsReadable b → AreTilesIn (take n us) → HaveRoom b us n → n ≤ length us
    → IsReadable (bundle_after_puts b (take n us)) × (tiles (bundle_after_puts b (take n us)) ≡ map_after (tiles b) (take n us))
puts_stand zero us b readable are room within = (readable, refl)
puts_stand (suc n) [] b readable are room within = absurd (omega (arith, within))
puts_stand (suc n) (u ∷ us) b readable are room within =
    let here : length b + 4 + length u.bytes ≤ 2 ^ 40 = room 0 (omega arith) in
    let rest = puts_stand n us (bundle_after_put b u.slot u.bytes) (put_readable b u.bytes u.slot readable are.0 are.1 are.2 here) are.3
    (λ i less. room (suc i) (omega (arith, less))) (omega (arith, within)) in
    (rest.0, rest.1 ∙ ap (λ (m : TileMap). map_after m (take n us)) (put_replaces b u.bytes u.slot readable are.0 are.1 are.2 here))

-- the updates behind the first k
module _ (b : List ℕ) (us : List TileRec) (k : ℕ) where
  later_long : (i : ℕ) → length_before b us (k + i) ≡ length_before (bundle_after_puts b (take k us)) (drop k us) i
  later_long i = ap (λ (x : List TileRec). length (bundle_after_puts b x)) (take-add k i us) ∙ ap length (bundles_join b (take k us) (take i (drop k us)))

  later_bytes : (i : ℕ) → bytes_at us (k + i) ≡ bytes_at (drop k us) i
  later_bytes i = ap (λ (u : TileRec). u.bytes) (sym (get_or-drop k us i (record { slot = 0; bytes = [] })))

  later_full : (i : ℕ) → length_before b us (k + i) + 4 + length (bytes_at us (k + i)) ≡ length_before (bundle_after_puts b (take k us)) (drop k us) i + 4 + length (bytes_at (drop k us) i)
  later_full i = let bytes = ap length (later_bytes i) in let long = later_long i in omega (arith, bytes, long)

  -- a group that fits behind them is the next group
  pub next_is : (n : ℕ) → 0 < n → k < length us → IsFitting (length (bundle_after_puts b (take k us))) (drop k us) n → Opens (bundle_after_puts b (take k us)) → IsNextGroup b us k n
  next_is n some below fits opens =
      let rest : length (drop k us) ≡ length us - k = length-drop k us in
      record {
        most = fits.most;
        within = omega (arith, fits.within, rest, below);
        room = λ i from less.
            let e : k + (i - k) ≡ i = omega (arith, from) in
            subst (λ (m : ℕ). length_before b us m + 4 + length (bytes_at us m) ≤ 2 ^ 40) e
            (let room = room_of (bundle_after_puts b (take k us)) (drop k us) n opens fits (i - k) (omega (arith, from, less)) in omega (arith, room, later_full (i - k)));
        ends = elim fits.ends [
          | inl most ↦ inl most
          | inr others ↦ elim others [
            | inl all ↦ inr (inl (omega (arith, all, rest, below)))
            | inr full ↦ (let size = length-take-le n (drop k us) fits.within in
                let long = after_long (bundle_after_puts b (take k us)) (take n (drop k us)) opens (omega (arith, size, some)) fits.first.tiles in
                inr (inr (omega (arith, later_full n, long, full))))
          ]
        ];
      }

-- one group more
pub room_more : (b : List ℕ) (us : List TileRec) (k n : ℕ) → HaveRoom b us k → IsNextGroup b us k n → HaveRoom b us (k + n)
room_more b us k n room next i less = elim (cases_lt i k) [
  | inl before ↦ room i before
  | inr at ↦ next.room i at less
]

-- the bytes of a tile behind the first k
pub bytes_first : (us : List TileRec) (k : ℕ) → length (bytes_at (drop k us) 0) ≡ length (bytes_at us k)
bytes_first us k = sym (ap length (later_bytes [] us k 0)) ∙ ap (λ (i : ℕ). length (bytes_at us i)) (let e : k + 0 ≡ k = omega arith in e)

-- and of one of the first n of these
pub bytes_here : (us : List TileRec) (k n i : ℕ) → i < n → length (bytes_at (take n (drop k us)) i) ≡ length (bytes_at us (k + i))
bytes_here us k n i less = ap (λ (u : TileRec). length u.bytes) (get_or-take n (drop k us) i (record { slot = 0; bytes = [] }) less) ∙ sym (ap length (later_bytes [] us k i))
