-- What a variation store means, and what its calls may do. S is any type of store, a stack of layers too.
use Rattle.std.specs.Prelude.{◌≡◌, ℕ, ◌+◌, ◌<◌, min, ◌⊎◌, List, [], ◌∷◌, ◌++◌, length, ℤ, Some, None, Ok, Err, Result}
use Rattle.spec.specs.Denials.{Word, Part, Denial, arises, passed_by}
use Rattle.spec.specs.Entries.{Delta, delta_at, deltas_fault, Alike}
use Rattle.spec.specs.Meaning.{no_id}

-- a store is known by the ids that it holds, the delta under each id at each region, the number of its free places, and the
-- lists that it recognises. `layers` is how many layers pass up a denial that arises at the bottom of the stack
pub record Store (S : Type 0) : Type 1 where
  pub held : S → ℕ → Type 0
  pub value : S → ℕ → ℕ → ℤ
  pub free : S → ℕ
  pub recognises : S → List Delta → Type 0
  pub layers : ℕ

module _ {S : Type 0} (m : Store S) where
  -- an id holds a list: at every region it has the list's delta, 0 where the region is not listed
  abbrev pub Holds : S → ℕ → List Delta → Type 0
  Holds s k l = m.held s k × ((r : ℕ) → m.value s k r ≡ delta_at l r)

  -- every id held at s keeps its deltas at t
  abbrev pub Keeps : S → S → Type 0
  Keeps s t = (k : ℕ) → m.held s k → m.held t k × ((r : ℕ) → m.value t k r ≡ m.value s k r)

  -- every store, at first and later: what it recognises is held, and ids have 32 bits and are never 0xFFFFFFFF
  pub record Laws : Type 0 where
    pub known : (s : S) (l : List Delta) → m.recognises s l → (k : ℕ) × Holds s k l
    pub ids : (s : S) (k : ℕ) → m.held s k → k < no_id

  -- alike to a recognised one
  abbrev pub Known : S → List Delta → Type 0
  Known s l = (k : List Delta) × m.recognises s k × Alike l k

  -- ids, their deltas and free places stay
  abbrev pub Same : S → S → Type 0
  Same s t = Keeps s t × Keeps t s × (m.free t ≡ m.free s)

  -- nothing changes: what is recognised stays too
  abbrev pub Unchanged : S → S → Type 0
  Unchanged s t = Same s t × ((l : List Delta) → m.recognises s l → m.recognises t l) × ((l : List Delta) → m.recognises t l → m.recognises s l)

  -- a new id holds the list, one free place goes, older ids keep their deltas, and there is no other id
  pub record New (s t : S) (l : List Delta) (k : ℕ) : Type 0 where
    pub unknown : Known s l → ⊥
    pub fresh : m.held s k → ⊥
    pub holds : Holds t k l
    pub keeps : Keeps s t
    pub only : (i : ℕ) → m.held t i → m.held s i ⊎ (i ≡ k)
    pub falls : m.free s ≡ m.free t + 1

  -- ADDING a list to s gives t and an id, or a denial: of a list that entry would deny too, told by the topmost layer; or
  -- `store full`, passed up by each layer
  abbrev pub Added : S → S → List Delta → Result ℕ Denial → Type 0
  Added s t l (Ok k) = (deltas_fault l ≡ None) × ((Known s l × Same s t × Holds t k l) ⊎ New s t l k)
  Added s t l (Err d) = Unchanged s t × (((i : ℕ) × (deltas_fault l ≡ Some i) × (d ≡ arises Word.bad_deltas i Part.store))
      ⊎ ((deltas_fault l ≡ None) × (Known s l → ⊥) × (m.free s ≡ 0) × (d ≡ passed_by m.layers (arises Word.store_full 0 Part.store))))

  -- ASKING for an id and a region alters nothing
  abbrev pub Asked : S → ℕ → ℕ → Result ℤ Denial → Type 0
  Asked s k r (Ok d) = m.held s k × (d ≡ m.value s k r)
  Asked s k r (Err d) = (m.held s k → ⊥) × (d ≡ passed_by m.layers (arises Word.unknown_id k Part.store))

  -- a new store over so many places holds nothing; at most 65,535 of them are used
  abbrev pub Fresh : S → ℕ → Type 0
  Fresh s places = ((k : ℕ) → m.held s k → ⊥) × (m.free s ≡ min places 65535)

  -- lists added one after the other, with their ids
  abbrev pub AddedAll : S → S → List (List Delta) → List ℕ → Type 0
  AddedAll s t [] [] = t ≡ s
  AddedAll s t [] (k ∷ ks) = ⊥
  AddedAll s t (l ∷ ls) [] = ⊥
  AddedAll s t (l ∷ ls) (k ∷ ks) = (u : S) × Added s u l (Ok k) × AddedAll u t ls ks

  -- so many of the lists were accepted, and the next one was denied
  pub record Stopped (s t : S) (ls : List (List Delta)) (accepted : ℕ) (d : Denial) : Type 0 where
    pub before : List (List Delta)
    pub next : List Delta
    pub rest : List (List Delta)
    pub ids : List ℕ
    pub middle : S
    pub order : ls ≡ before ++ (next ∷ rest)
    pub count : length before ≡ accepted
    pub took : AddedAll s middle before ids
    pub denied : Added middle t next (Err d)
