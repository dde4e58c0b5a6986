use Rattle.std.proofs.Common.{rules, ◌≡◌, List, [], ◌∷◌, ◌++◌, sym, ap, subst, ◌∙◌, true≢false}
use Rattle.std.proofs.lemmas.List.{append-nil, append_assoc, nil_from_length}
use Rattle.block_store.specs.Store.{Store}
use Rattle.pool_maps.specs.Loads.{AreApart, AreLoadedAs, AreSetsOf, IsLoadStopped}
use Rattle.pool_maps.specs.declared.reading.FreeMetaslab.{FreeMetaslab}
use Rattle.pool_maps.proofs.LoadedStores.{loaded_as, next_may, none_yet, one_more}
use Rattle.pool_maps.proofs.loading.load_maps.Goals as goal

pub loop-read-init : goal.loop-read-init
loop-read-init g c = (none_yet c.args.store.now, search rules)

pub loop-read-preserved : goal.loop-read-preserved
loop-read-preserved g c =
    let before = c.loop-read.invariant in
    let done = c.loop-read.yielded in
    let left = c.next.new.self.rest.items in (
      one_more c.args.store.now c.loop-read.store c.load_one.new.store done c.in-Some.read before.0 c.load_one.ensures.loads c.if-not-load_one.ensures.loaded,
      before.1 ∙ ap (λ (rest : List FreeMetaslab). done ++ rest) c.in-Some.ensures.steps.0 ∙ sym (append_assoc done (c.in-Some.read ∷ []) left),
    )

pub returns-then-not-load_one-clause-refused : goal.returns-then-not-load_one-clause-refused
returns-then-not-load_one-clause-refused g c =
    let before = c.loop-read.invariant in
    let done = c.loop-read.yielded in
    let stopped : IsLoadStopped c.args.store.now.spaces c.args.maps.items c.loop-read.store.spaces = record {
      done = done;
      next = c.in-Some.read;
      left = c.next.new.self.rest.items;
      are = before.1 ∙ ap (λ (rest : List FreeMetaslab). done ++ rest) c.in-Some.ensures.steps.0;
      loaded = λ apart. loaded_as c.args.store.now c.loop-read.store done before.0 apart;
      none = λ may. true≢false (sym (c.if-not-load_one.ensures.may.1 may));
    } in
    subst (λ (s : Store). IsLoadStopped c.args.store.now.spaces c.args.maps.items s.spaces) (sym c.if-not-load_one.ensures.left) stopped

pub returns-then-not-load_one-clause-always : goal.returns-then-not-load_one-clause-always
returns-then-not-load_one-clause-always g c = λ sets free.
    let before = c.loop-read.invariant in
    let done = c.loop-read.yielded in
    let read = c.in-Some.read in
    let left = c.next.new.self.rest.items in
    let are : c.args.maps.items ≡ done ++ read ∷ left = before.1 ∙ ap (λ (rest : List FreeMetaslab). done ++ rest) c.in-Some.ensures.steps.0 in
    c.if-not-load_one.ensures.may.1 (next_may c.args.store.now c.loop-read.store done left read before.0 (subst (AreSetsOf c.args.store.now.spaces) are sets) free)

pub returns-clause-value : goal.returns-clause-value
returns-clause-value g c = λ apart.
    let done = c.loop-read.yielded in
    let left = c.loop-read.read-iterator.rest in
    let none : left.items ≡ [] = nil_from_length left.items (sym left.ok.0 ∙ c.in-None.ensures.steps.0) in
    let all : c.args.maps.items ≡ done = c.loop-read.invariant.1 ∙ ap (λ (rest : List FreeMetaslab). done ++ rest) none ∙ append-nil done in
    subst (λ (maps : List FreeMetaslab). AreLoadedAs c.args.store.now.spaces maps c.loop-read.store.spaces) (sym all)
    (loaded_as c.args.store.now c.loop-read.store done c.loop-read.invariant.0 (subst AreApart all apart))

pub returns-clause-released : goal.returns-clause-released
returns-clause-released g c = c.loop-read.invariant.0.released
