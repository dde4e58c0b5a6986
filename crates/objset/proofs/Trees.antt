-- One object whose tree was rewritten or freed.
use Rattle.std.proofs.Common.{◌≡◌, ℕ, List, [], ◌++◌, Option, Some, None, refl, sym, ap, ◌∙◌, subst, append_assoc, append-nil}
use Rattle.std.specs.Prelude.{Vec}
use Rattle.std.specs.declared.alloc.Global.{Global}
use Rattle.block_pointer.specs.declared.block.Block.{Block}
use Rattle.block_store.specs.Blocks.{Contents}
use Rattle.block_store.specs.Plans.{Plans}
use Rattle.block_store.specs.Store.{Store}
use Rattle.dnode.specs.declared.dnode.Dnode.{Dnode}
use Rattle.dnode.specs.declared.dnode.Dnode.TheVariants.{Free, Object as Node}
use Rattle.dnode.specs.declared.node.ObjectNode.{ObjectNode}
use Rattle.dnode_tree.specs.declared.writes.BlockWrite.{BlockWrite}
use Rattle.dnode_tree.specs.declared.writes.CopyCounts.{CopyCounts}
use Rattle.dnode_tree.specs.declared.writes.Rewrite.{Rewrite}
use Rattle.dnode_tree.specs.Rewriting.{IsExchanged, IsGrown, IsRewritten}
use Rattle.dnode_tree.specs.Writes.{written}
use Rattle.dnode_tree.proofs.Exchanging.{front_gone}
use Rattle.objset.proofs.Exchanged.{all_gone}
use Rattle.objset.proofs.Highest.{highest_is}
use Rattle.objset.proofs.Kept.{HasTree, no_object}
use Rattle.objset.specs.declared.changes.Change.{Change}
use Rattle.objset.specs.declared.changes.Change.TheVariants as changes
use Rattle.objset.specs.Changes.{AreWhole, MayChange, after_change, highest_of}
use Rattle.objset.specs.Changing.{IsObjectChanged, object_with}
use Rattle.objset.specs.Objects.{Object, IsObject}

-- an object of the node's type and size is the node's
object_is : (node : ObjectNode) (there : Object) (writes : List BlockWrite) (highest id : ℕ) (array : ℕ → Option (List ℕ)) → there.object_type ≡ node.object_type → there.data_sectors ≡ node.data_sectors
    → id ≡ highest → object_with node writes highest array ≡ record there { highest = highest_of writes id; array = written writes array }
object_is node there writes highest id array object_type data_sectors same =
    ap (λ t. let made : Object = record { object_type = t; data_sectors = node.data_sectors; highest = highest_of writes highest; array = written writes array } in made) (sym object_type)
    ∙ ap (λ n. let made : Object = record { object_type = there.object_type; data_sectors = n; highest = highest_of writes highest; array = written writes array } in made) (sym data_sectors)
    ∙ ap (λ h. let made : Object = record { object_type = there.object_type; data_sectors = there.data_sectors; highest = highest_of writes h; array = written writes array } in made) (sym same)

pub tree_changed : (copies made : CopyCounts) (planned later : Contents) (birth : ℕ) (done : Rewrite) (node : ObjectNode) (writes : List BlockWrite) (array : ℕ → Option (List ℕ)) (before noted noted_later : List Block)
    → made ≡ copies → IsGrown node done.node writes → noted_later ≡ noted ++ done.replaced.items
    → IsRewritten made planned later birth done (written writes array) before
    → IsObjectChanged copies planned later birth (Node done.node) (Some (object_with node writes node.highest array)) before noted noted_later
tree_changed copies made planned later birth done node writes array before noted noted_later same grown noted_are rewritten = record {
  kept = rewritten.kept;
  blocks = rewritten.blocks;
  is = (sym grown.object_type, sym grown.data_sectors, sym (highest_is node done.node writes grown), rewritten.tree);
  gone = done.replaced.items;
  noted_are = noted_are;
  exchanged = subst (λ counts. IsExchanged counts birth planned later before rewritten.blocks done.replaced.items) same rewritten.exchanged;
}

pub tree_freed : (copies : CopyCounts) (planned : Contents) (birth : ℕ) (blocks noted noted_later : List Block) → noted_later ≡ noted ++ blocks
    → IsObjectChanged copies planned planned birth Free None blocks noted noted_later
tree_freed copies planned birth blocks noted noted_later noted_are = record {
  kept = λ block bytes known. known;
  blocks = [];
  is = (refl, refl);
  gone = blocks;
  noted_are = noted_are;
  exchanged = all_gone copies birth planned blocks;
}

-- an object that is written anew: the blocks before were noted first
pub tree_replaced : (copies : CopyCounts) (planned later : Contents) (birth : ℕ) (after : Dnode) (object : Option Object) (blocks noted noted_mid noted_later : List Block) → noted_mid ≡ noted ++ blocks
    → IsObjectChanged copies planned later birth after object [] noted_mid noted_later
    → IsObjectChanged copies planned later birth after object blocks noted noted_later
tree_replaced copies planned later birth after object blocks noted noted_mid noted_later mid_is made = record {
  kept = made.kept;
  blocks = made.blocks;
  is = made.is;
  gone = blocks ++ made.gone;
  noted_are = made.noted_are ∙ ap (λ front. front ++ made.gone) mid_is ∙ append_assoc noted blocks made.gone;
  exchanged = subst (λ before. IsExchanged copies birth planned later before made.blocks (blocks ++ made.gone)) (append-nil blocks)
      (front_gone birth planned later [] made.blocks made.gone blocks made.exchanged);
}

-- the change may be made, and was
abbrev pub MayAndIs : CopyCounts → Store → Contents → Contents → ℕ → Dnode → Change → Option Object → List Block → List Block → List Block → Type 0
MayAndIs copies store stored planned birth after change object blocks noted noted_later =
    MayChange change object × (later : Contents) × Plans store stored later × IsObjectChanged copies planned later birth after (after_change change object) blocks noted noted_later

module _ (copies : CopyCounts) (store : Store) (stored planned : Contents) (bound birth : ℕ) (after : Dnode) (change : Change) (object : Option Object) (blocks noted noted_later : List Block) where
  pub is_created : (dnode : Dnode) (node : ObjectNode) (writes : Vec BlockWrite Global) (list : List BlockWrite) → change ≡ changes.Create node.object_type node.data_sectors writes → dnode ≡ Free
      → IsObject stored bound dnode object blocks → list ≡ writes.items
      → (later : Contents) × Plans store stored later × IsObjectChanged copies planned later birth after (Some (object_with node list 0 (λ id. None))) [] noted noted_later
      → MayAndIs copies store stored planned birth after change object blocks noted noted_later
  is_created dnode node writes list is free there items made =
      let none = no_object stored bound dnode dnode object blocks refl free there in
      subst (λ it. MayAndIs copies store stored planned birth after it object blocks noted noted_later) (sym is) (
        none.0,
        made.0,
        made.1,
        subst (λ held. IsObjectChanged copies planned made.0 birth after (Some (object_with node writes.items 0 (λ id. None))) held noted noted_later) (sym none.1)
            (subst (λ ws. IsObjectChanged copies planned made.0 birth after (Some (object_with node ws 0 (λ id. None))) [] noted noted_later) items made.2),
      )

  pub is_put : (node : ObjectNode) (writes : Vec BlockWrite Global) (list : List BlockWrite) → change ≡ changes.Put writes → (has : HasTree stored bound node object blocks) → list ≡ writes.items
      → AreWhole node.data_sectors list
      → (later : Contents) × Plans store stored later × IsObjectChanged copies planned later birth after (Some (object_with node list node.highest has.there.array)) blocks noted noted_later
      → MayAndIs copies store stored planned birth after change object blocks noted noted_later
  is_put node writes list is has items whole made =
      subst (λ it. MayAndIs copies store stored planned birth after it object blocks noted noted_later) (sym is)
      (subst (λ it. MayAndIs copies store stored planned birth after (changes.Put writes) it blocks noted noted_later) (sym has.is) (
        subst (λ ws. AreWhole has.there.data_sectors ws) items (subst (λ sectors. AreWhole sectors list) (sym has.data_sectors) whole),
        made.0,
        made.1,
        subst (λ ws. IsObjectChanged copies planned made.0 birth after (Some (record has.there { highest = highest_of ws has.there.highest; array = written ws has.there.array })) blocks noted noted_later) items
            (subst (λ it. IsObjectChanged copies planned made.0 birth after (Some it) blocks noted noted_later) (object_is node has.there list node.highest has.there.highest has.there.array has.object_type has.data_sectors has.highest) made.2),
      ))

  pub is_replaced : (node : ObjectNode) (writes : Vec BlockWrite Global) (list : List BlockWrite) → change ≡ changes.Replace writes → (has : HasTree stored bound node object blocks) → list ≡ writes.items
      → AreWhole node.data_sectors list
      → (later : Contents) × Plans store stored later × IsObjectChanged copies planned later birth after (Some (object_with node list 0 (λ id. None))) blocks noted noted_later
      → MayAndIs copies store stored planned birth after change object blocks noted noted_later
  is_replaced node writes list is has items whole made =
      subst (λ it. MayAndIs copies store stored planned birth after it object blocks noted noted_later) (sym is)
      (subst (λ it. MayAndIs copies store stored planned birth after (changes.Replace writes) it blocks noted noted_later) (sym has.is) (
        subst (λ ws. AreWhole has.there.data_sectors ws) items (subst (λ sectors. AreWhole sectors list) (sym has.data_sectors) whole),
        made.0,
        made.1,
        subst (λ ws. IsObjectChanged copies planned made.0 birth after (Some (record has.there { highest = highest_of ws 0; array = written ws (λ id. None) })) blocks noted noted_later) items
            (subst (λ it. IsObjectChanged copies planned made.0 birth after (Some it) blocks noted noted_later) (object_is node has.there list 0 0 (λ id. None) has.object_type has.data_sectors refl) made.2),
      ))

  pub is_freed : (node : ObjectNode) → change ≡ changes.Free → after ≡ Free → HasTree stored bound node object blocks → Plans store stored planned → noted_later ≡ noted ++ blocks
      → MayAndIs copies store stored planned birth after change object blocks noted noted_later
  is_freed node is free has plans noted_are =
      subst (λ it. MayAndIs copies store stored planned birth after it object blocks noted noted_later) (sym is) (
        λ none. absurd (let clash : None ≡ Some has.there = sym none ∙ has.is in cc),
        planned,
        plans,
        subst (λ dnode. IsObjectChanged copies planned planned birth dnode None blocks noted noted_later) (sym free) (tree_freed copies planned birth blocks noted noted_later noted_are),
      )
