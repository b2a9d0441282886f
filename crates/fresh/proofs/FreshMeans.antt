-- `is_fresh_in` of slices that hold a type table is document 01's `is_fresh` of the table and the frame's constructor.
use mathlib.Core.Path.{◌≡◌, refl, sym, ap, ap₂, subst, ◌∙◌}
use mathlib.Core.Bool.{Bool, true, false, not, ◌&&◌, ◌||◌}
use mathlib.Core.List.{List, [], map}
use Prim.Native.Nat.{ℕ, ◌+◌, ◌-◌, ◌*◌, ◌<◌}
use native.Mathlib.Omega.{arith}
use lib.ListN.{length, get_or, drop}
use Rattle.scope.specs.Lists.{any, same, twice}
use Rattle.scope.specs.Types.{Ctor, Ty, dat, Table, type_at, kind, name_of, last_declared}
use Rattle.scope.specs.Constructors.{built, ctors_at}
use Rattle.scope.specs.Frames.{found, constructor_frame}
use Rattle.scope.specs.Blocks.{is_fresh}
use Rattle.layout.specs.Types.{text_at, Holds}
use Rattle.layout.specs.Places.{places, reads}
use Rattle.table.specs.Build.{flag_at, EndsInData}
use Rattle.fresh.specs.Fresh.{name_there, label_texts, labels_new, is_fresh_in}
use Rattle.scope.proofs.Tests.{any-map}
use Rattle.layout.proofs.Slices.{any_index}
use Rattle.table.proofs.FrameBytes.{LabelsRead, without, with, ctor-read}
use Rattle.table.proofs.Tables.{type-new, last-is}
use Rattle.table.proofs.TypeMeans.{name-held}
use Rattle.table.proofs.CtorMeans.{last-type, last-counted}

not_or : (a b : Bool) → (not a && not b) ≡ not (a || b)
not_or true b = refl
not_or false b = refl

-- the frame's labels decide as its bytes do
by-labels : (bytes : List ℕ) (at : ℕ) (c : Ctor) (a : Bool) → LabelsRead bytes at c → (not a && labels_new bytes (flag_at bytes at)) ≡ not (a || twice c.labels)
unfolding labels_new label_texts twice
by-labels bytes at c a (without b ls fs) = rw (b, ls) (not_or a (twice []))
by-labels bytes at c a (with b l) = rw (b, l.labels_are) (not_or a (twice c.labels))

module _ {bytes kinds counts arities starts names fields labels : List ℕ} {types made used : ℕ} {table : Table} (h : Holds bytes kinds counts arities starts names fields labels types made used table) (e : EndsInData table) where
  -- the name of each constructor of the data type just above
  last-named : (d : ℕ) → d < length e.made → text_at bytes (get_or names (32 * (types - 1) + d) 0) ≡ name_of (get_or e.made d (built [] []))
  last-named d k =
      let place : types - 1 ≡ length e.front = omega (arith, last-type h e) in
      let at_last : type_at table (types - 1) ≡ dat e.made = ap (type_at table) place ∙ ap (λ (tb : Table). type_at tb (length e.front)) e.is ∙ type-new e.front (dat e.made) in
      subst (λ (ty : Ty). kind ty ≡ 6 → d < length (ctors_at (types - 1) ty) → text_at bytes (get_or names (32 * (types - 1) + d) 0) ≡ name_of (get_or (ctors_at (types - 1) ty) d (built [] []))) at_last (λ s l. (name-held h (types - 1) d s l).name_is) refl k

  name-there : (at : ℕ) (c : Ctor) → text_at bytes at ≡ c.name → name_there bytes at names (32 * (types - 1)) (get_or counts (types - 1) 0) ≡ any (same c.name) (map name_of (last_declared table))
  unfolding name_there
  name-there at c n =
      let t = types - 1 in
      let last : last_declared table ≡ e.made = ap last_declared e.is ∙ last-is e.front e.made in
      ap (λ k. any (λ p. same (text_at bytes at) (text_at bytes p)) (reads names (places (32 * t) k))) (last-counted h e)
      ∙ any-map (λ p. same (text_at bytes at) (text_at bytes p)) (λ i. get_or names i 0) (places (32 * t) (length e.made))
      ∙ any_index (built [] []) (λ i. same (text_at bytes at) (text_at bytes (get_or names i 0))) (λ d. same c.name (name_of d)) e.made (32 * t) (λ d k. ap₂ same n (last-named d k))
      ∙ sym (any-map (same c.name) name_of e.made)
      ∙ ap (λ cs. any (same c.name) (map name_of cs)) (sym last)

  pub fresh-means : (at : ℕ) (c : Ctor) (rest : List ℕ) → constructor_frame (drop at bytes) ≡ found c rest → is_fresh_in bytes at names counts (types - 1) ≡ is_fresh table c
  unfolding is_fresh_in is_fresh
  fresh-means at c rest frame =
      let r = ctor-read bytes at c rest frame in
      by-labels bytes at c (name_there bytes at names (32 * (types - 1)) (get_or counts (types - 1) 0)) r.labels_read ∙ ap (λ b. not (b || twice c.labels)) (name-there at c r.name_is)
