-- Arrays of at most l items: what operations leave is no larger.
use Rattle.std.specs.Prelude.{ℕ, ◌≤◌, Bool, true, false, cond, List, eqb, length, set}
use Rattle.std.proofs.Math.Option.{Option, none, some}
use Rattle.std.proofs.Math.ListN.{get_elem?}
use Rattle.std.proofs.Common.{length-set}
use Rattle.sifv.specs.Value.{Single, Entry, Value, One, Arr, Tab}
use Rattle.opc.specs.Op.{BinOpKind, UnOpKind}
use Rattle.vm.specs.Operation.{Got, Names, put, or_null, binary, unary, read, array_item, update, tabled}
pub use Rattle.vm_laws.specs.laws.Outcomes.{ok, stop}
use Rattle.vm_laws.specs.laws.Outcomes.{Comes, Sole, Closed, binary_comes, unary_comes, read_comes, item_comes, items_comes, update_comes, tabled_comes}
use Rattle.walk.specs.Walk as Walk
use Rattle.opc.specs.laws.RecordRange.{AllSome, Any, any_all}

-- what a name or a register holds
pub data Small (l : ℕ) : Option Value → Type 0 where
  unset : Small l none
  single : {s : Single} → Small l (some (One s))
  items : {a : List Single} → length a ≤ l → Small l (some (Arr a))
  entries : {t : List Entry} → Small l (some (Tab t))

abbrev pub SmallValue : ℕ → Value → Type 0
SmallValue l v = Small l (some v)

pub record Smalls (l : ℕ) (e : Names) : Type 0 where
  pub small : (x : ℕ) → Small l (e x)

-- what comes of an operation satisfies `fine`, if it does not stop
abbrev pub Good : {A : Type 0} → (A → Type 0) → Got A → Type 0
Good fine g = Comes Any fine g

module _ {l : ℕ} where
  small_cond : (b : Bool) {v w : Option Value} → Small l v → Small l w → Small l (cond b v w)
  small_cond true h g = h
  small_cond false h g = g

  pub small_put : {e : Names} (x : ℕ) {v : Option Value} → Smalls l e → Small l v → Smalls l (put e x v)
  small_put x h g = record { small = λ y. small_cond (eqb y x) g (h.small y) }

  pub small_null : {v : Option Value} → Small l v → Small l (or_null v)
  small_null unset = single
  small_null single = single
  small_null (items h) = items h
  small_null entries = entries

  small_value : {v : Option Value} → Small l v → AllSome (SmallValue l) v
  small_value unset = tt
  small_value single = single
  small_value (items h) = items h
  small_value entries = entries

  length_of : {a : List Single} → SmallValue l (Arr a) → length a ≤ l
  length_of (items h) = h

  -- an item set keeps the array's length
  item_set_lem : (a : List Single) (k : ℕ) (s : Single) → SmallValue l (Arr a) → SmallValue l (Arr (set a k s))
  item_set_lem a k s (items h) = items {a = set a k s} (rw (length-set a k s) h)

-- nothing is asked of texts, single values and stops
small : (l : ℕ) → Closed Any Any (SmallValue l) (Smalls l) Any
small l = record {
  bare = λ e q. tt;
  unset = λ x q. tt;
  no_array = λ x q. tt;
  outside = λ x k a q h g. tt;
  added = λ x y. tt;
  subtracted = λ x y. tt;
  multiplied = λ x y. tt;
  divided = λ x y. tt;
  remainder = λ x y h. tt;
  opposite = λ x h. tt;
  counted = λ n. tt;
  yes_no = λ b. tt;
  single = λ s h. single;
  at = λ a k h. any_all (get_elem? a k);
  changed = λ a k s h q. item_set_lem a k s h;
  again = λ t k s old h q r e. entries;
  new = λ t k s h q r e. entries;
  named = λ e x h. small_value (h.small x);
  stored = λ e x v q h g. small_put x h g;
}

sole : (v : Value) → Sole Any v
sole (One s) = tt
sole (Arr a) = tt
sole (Tab t) = tt

module _ {l : ℕ} where
  pub good_binary : (k : BinOpKind) (v w : Value) → Good (SmallValue l) (binary k v w)
  good_binary k v w = binary_comes (small l) k v w (sole v)

  pub good_unary : (k : UnOpKind) (v : Value) → Good (SmallValue l) (unary k v)
  good_unary k v = unary_comes (small l) k v (sole v)

  pub good_read : (x : ℕ) {e : Names} → Smalls l e → Good (SmallValue l) (read e x)
  good_read x h = read_comes (small l) _ x h tt

  pub good_item : (x : ℕ) (i : Value) {e : Names} → Smalls l e → Good (SmallValue l) (array_item e x i)
  good_item x i h = item_comes (small l) _ x h tt i

  pub good_items : (x : ℕ) {e : Names} → Smalls l e → Good (λ a. length a ≤ l) (Walk.items_held e x)
  good_items x h = items_comes (small l) _ x h tt λ a p. ok (length_of p)

  pub good_update : (x : ℕ) (i w : Value) {e : Names} → Smalls l e → Good (Smalls l) (update e x i w)
  good_update x i w h = update_comes (small l) _ x h tt i w (sole w)

  pub good_tabled : (x k : ℕ) (w : Value) {e : Names} → Smalls l e → Good (Smalls l) (tabled e x k (some w))
  good_tabled x k w h = tabled_comes (small l) _ x h tt k (some w) tt (sole w)
