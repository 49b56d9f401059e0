-- A volume in memory over two empty files is new.
use Rattle.std.proofs.Common.{◌≡◌, ℕ, List, [], Option, Result, Ok, Err, refl, subst, sym, true, rules}
use Rattle.std.specs.Prelude.{IfOk, IsTrue}
use Rattle.outside_io.specs.volume.Disk.{settled}
use Rattle.outside_io.specs.volume.Recorded.{Recorded, first_record}
use Rattle.outside_io.specs.volume.Sparse.{SparseFile, sparse, sparse_bytes}
use Rattle.level_cache.specs.Memory.{IsSpare}

none_there : (pieces : List (ℕ × List ℕ)) → sparse 0 pieces ≡ []
unfolding sparse
none_there pieces = refl

no_bytes : (f : SparseFile) → f.len ≡ 0 → sparse_bytes f ≡ []
no_bytes f is = subst (λ (n : ℕ). sparse n f.pieces ≡ []) (sym is) (none_there f.pieces)

told : IsTrue true
told = search rules

first_is : (b j : SparseFile) (failing : List ℕ) (stop : Option ℕ) (calls room : ℕ) → b.len ≡ 0 → j.len ≡ 0 → IsSpare (first_record b j failing stop calls room)
first_is b j failing stop calls room bundle journal =
    let one = no_bytes b bundle in
    let other = no_bytes j journal in record {
      tells = told;
      disk = λ i. record { bundle = settled (one i); journal = settled (other i) };
      moment = refl;
      faults_none = refl;
    }

pub made_spare : {E : Type 0} (made : Result Recorded E) (b j : SparseFile) (failing : List ℕ) (stop : Option ℕ) (calls room : ℕ) → b.len ≡ 0 → j.len ≡ 0
    → IfOk made (λ v. v ≡ first_record b j failing stop calls room) → IfOk made IsSpare
made_spare (Ok v) b j failing stop calls room bundle journal is = subst IsSpare (sym is) (first_is b j failing stop calls room bundle journal)
made_spare (Err e) b j failing stop calls room bundle journal is = tt
