use Rattle.std.proofs.Common.{◌≡◌, ℕ, ◌<◌, ◌≤◌, List, [], ◌++◌, length, drop, take, sym, subst, ap, ◌∙◌, arith}
use Rattle.std.proofs.lemmas.List.{append-nil, drop_all, length-drop, length-take-le}
use Rattle.std.proofs.Math.Seq.{take-append_seam}
use Rattle.outside_io.specs.declared.volume.VolFile.TheVariants.{Bundle}
use Rattle.outside_io.specs.volume.History.{ReadsAt, contents}
use Rattle.bundle_index.specs.Entry.{entry_at}
use Rattle.bundle_index.specs.declared.entry.Entry.{Entry}
use Rattle.bundle_store.specs.Session.{GetGives}
use Rattle.bundle_store.proofs.reading.read_tile.Goals as goal

-- a read of as many bytes as the entry names
read_gives : (b : List ℕ) (slot got : ℕ) (e : Entry) (old buf : List ℕ) → e ≡ entry_at b slot
    → 0 < e.size → ReadsAt b e.offset got old buf → length old ≡ e.size → e.size ≤ got
    → GetGives b slot buf
read_gives b slot got e old buf is some read size all =
    let size_is = ap (λ (x : Entry). x.size) is in
    let offset_is = ap (λ (x : Entry). x.offset) is in
    let count : got ≡ e.size = omega (arith, read.count, size, all) in
    let nothing : drop got old ≡ [] = drop_all got old (omega (arith, count, size)) in
    let front = take got (drop e.offset b) in
    record {
      some = omega (arith, size_is, some);
      within = omega (arith, size_is, offset_is, read.count, size, all, some);
      bytes = read.bytes ∙ ap (λ (l : List ℕ). front ++ l) nothing ∙ append-nil front
          ∙ ap (λ (n : ℕ). take n (drop e.offset b)) count
          ∙ ap (λ (x : Entry). take x.size (drop x.offset b)) is;
    }

given_size : (b : List ℕ) (slot : ℕ) (tile : List ℕ) → GetGives b slot tile
    → length tile ≡ (entry_at b slot).size
given_size b slot tile gives =
    let e = entry_at b slot in
    let left = drop e.offset b in
    let room : e.size ≤ length left = omega (arith, length-drop e.offset b, gives.within) in
    ap length gives.bytes ∙ length-take-le e.size left room

pub returns-clause-ok : goal.returns-clause-ok
returns-clause-ok g c = λ told slot is.
    let b = contents Bundle (g.V.Volume.history c.args.vol.now) in
    let e = c.args.entry in
    let buf = c.read.new.buf in
    let got = c.in_ok-got.got in
    let zeros = c.deref_mut.result.now in
    let read : ReadsAt b e.offset got zeros buf = c.in_ok-got.ensures.answer told in
    let size : length zeros ≡ e.size = c.deref_mut.ensures.len ∙ c.in_ok-resize.ensures.len in
    let gives = read_gives b slot got e zeros buf is c.requires.some read size c.if-got-size.false in
    let rest = drop (length buf) c.resize.new.self.items in
    let size_is = ap (λ (x : Entry). x.size) is in
    let long = sym (given_size b slot buf gives) in
    let len : c.resize.new.self.len ≡ length buf = c.in_ok-resize.ensures.len ∙ size_is ∙ long in
    let whole : c.from_vec.result ≡ buf = c.from_vec.ensures ∙ ap (λ (n : ℕ). take n (buf ++ rest)) len ∙ take-append_seam buf rest in
    subst (GetGives b slot) (sym whole) gives
