-- Items copied over a buffer, each by a function. Assumes nothing.
use mathlib.Core.Path.{◌≡◌, sym, ap, ◌∙◌}
use mathlib.Core.List.{List, [], ◌∷◌, ◌++◌, append_assoc, map}
use Prim.Native.Nat.{ℕ, suc, ◌+◌, ◌<◌}
use native.Mathlib.Numerals.{add-one}
use native.Mathlib.Omega.{arith}
use lib.ListN.{length, get_or, take, drop, set, length-map, get_or-map}
use lib.Seq.{drop-cons, set_at, length-take-le, take-suc}

stored_next : {A : Type 0} (xs out : List A) (k : ℕ) (v : A) → length xs ≡ k → k < length out → set (xs ++ drop k out) k v ≡ (xs ++ (v ∷ [])) ++ drop (k + 1) out
stored_next xs out k v e h = rw (add-one, drop-cons out k v, append_assoc, set_at xs (get_or out k v) (drop (suc k) out) v k e)

-- one element more
copy_next : {A : Type 0} (list out : List A) (i : ℕ) (d : A) → i < length list → i < length out → set (take i list ++ drop i out) i (get_or list i d) ≡ take (i + 1) list ++ drop (i + 1) out
copy_next list out i d h k = rw (add-one i, take-suc list i d h, ← add-one i) (stored_next (take i list) out i _ (length-take-le i list (omega arith)) k)

-- one item more, by f
pub item_next : {A B : Type 0} (f : A → B) (items : List A) (out : List B) (i : ℕ) {x : A} {v : B} → x ≡ get_or items i x → v ≡ f x → i < length items → i < length out
    → set (take i (map f items) ++ drop i out) i v ≡ take (i + 1) (map f items) ++ drop (i + 1) out
item_next f items out i {x} {v} at e h k =
    let g : v ≡ get_or (map f items) i (f x) = e ∙ ap f at ∙ sym (get_or-map f items i x) in
    rw g (copy_next (map f items) out i (f x) (simp length-map h) k)
