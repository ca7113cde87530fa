-- Errors of a module after its renumbering.
use Rattle.std.proofs.Common.{◌≡◌, ◌∙◌, List, Option, Some, None, IfSome, ap, refl, subst, sym}
use Rattle.just_resolution.specs.Fault.{ArgumentCountMismatch, BoundParameter, DuplicateNumber, IsFirstFault, ModuleFault, UndefinedFunction, UndefinedVariable}
use Rattle.just_resolution.specs.Fault.{UnknownAssignment, UntakenVariable}
use Rattle.just_resolution.specs.declared.fault.Fault.{Fault}
use Rattle.just_resolution.specs.declared.fault.Fault.TheVariants as faults
use Rattle.just_syntax.specs.declared.name.Name.{Name}
use Rattle.just_resolve.specs.Prelude.{Assignment, DependsOnItself, Frames, Function, IsCircular, IsCycle, IsFaultAnyway, IsFaultInEachOrder, IsOfCycle}
use Rattle.just_resolve.specs.Prelude.{IsOfMention, IsOrder, IsRenumbered, IsUntaken, Token, module_fault_view, name_view, ordered}
use Rattle.just_resolve.proofs.Reordering.{first_in_each, known_before}

module _ (outer : Frames) (functions functions' : List Function) (assignments assignments' : List Assignment)
    (renumbered : IsRenumbered outer functions assignments functions' assignments') where
  -- a cycle of the renumbered module, whose first fault is one of the order
  pub circular_from : (order : List Token) (fault : ModuleFault) (o : Option (List Token)) → IsFirstFault functions' (ordered assignments' order) outer fault
      → IfSome o (IsCycle functions' assignments') → IfSome o (λ names. IsUntaken fault) → IfSome o (IsCircular outer functions assignments)
  circular_from order fault None first cycle untaken = tt
  circular_from order fault (Some names) first cycle untaken =
      let known = known_before functions' assignments' outer order fault untaken first in record {
        functions' = functions';
        assignments' = assignments';
        renumbered = renumbered;
        cycle = cycle;
        values = known.0;
        bodies = known.1;
      }

  -- its first fault
  pub fault_from : (order : List Token) (fault : ModuleFault) (o : Option ModuleFault) → IsOrder assignments' order
      → IsFirstFault functions' (ordered assignments' order) outer fault → IfSome o (λ f. f ≡ fault) → IfSome o (IsFaultAnyway outer functions assignments)
  fault_from order fault None is_order first h = tt
  fault_from order fault (Some f) is_order first h = record {
    functions' = functions';
    assignments' = assignments';
    order = order;
    renumbered = renumbered;
    is_order = is_order;
    first = subst (IsFirstFault functions' (ordered assignments' order) outer) (sym h) first;
  }

  -- it is so in each order
  pub each_from : (order : List Token) (fault : ModuleFault) (o : Option ModuleFault) → IsFirstFault functions' (ordered assignments' order) outer fault
      → IfSome o IsOfMention → IfSome o (λ f. f ≡ fault) → IfSome o (IsFaultInEachOrder outer functions assignments)
  each_from order fault None first mention h = tt
  each_from order fault (Some f) first mention h = record {
    functions' = functions';
    assignments' = assignments';
    renumbered = renumbered;
    first = λ other. first_in_each functions' assignments' outer order other f mention
        (subst (IsFirstFault functions' (ordered assignments' order) outer) (sym h) first);
  }

-- ---- faults and cycles

module _ (functions : List Function) (all : List Assignment) (outer : Frames) where
  -- a fault of no untaken variable is not due to a cycle
  pub no_cycle : (fault : Fault) → ((a v : Name) → fault ≡ faults.UntakenVariable a v → ⊥) → IsOfCycle functions all outer (module_fault_view fault) → ⊥
  no_cycle (faults.ArgumentCountMismatch f n) other k = let bad : UntakenVariable k.0 k.1 ≡ ArgumentCountMismatch (name_view f) n = k.2 in cc
  no_cycle (faults.BoundParameter p) other k = let bad : UntakenVariable k.0 k.1 ≡ BoundParameter (name_view p) = k.2 in cc
  no_cycle (faults.DuplicateNumber v) other k = let bad : UntakenVariable k.0 k.1 ≡ DuplicateNumber (name_view v) = k.2 in cc
  no_cycle (faults.UndefinedFunction f) other k = let bad : UntakenVariable k.0 k.1 ≡ UndefinedFunction (name_view f) = k.2 in cc
  no_cycle (faults.UndefinedVariable v) other k = let bad : UntakenVariable k.0 k.1 ≡ UndefinedVariable (name_view v) = k.2 in cc
  no_cycle (faults.UnknownAssignment a) other k = let bad : UntakenVariable k.0 k.1 ≡ UnknownAssignment (name_view a) = k.2 in cc
  no_cycle (faults.UntakenVariable a v) other k = other a v refl

  -- the assignment of an untaken variable depends on itself, if that is due to a cycle
  pub cycle_reader : (fault : Fault) (a v : Name) → fault ≡ faults.UntakenVariable a v → IsOfCycle functions all outer (module_fault_view fault)
      → DependsOnItself functions all outer a.token.lexeme.now
  cycle_reader fault a v is k =
      let both : UntakenVariable k.0 k.1 ≡ UntakenVariable (name_view a) (name_view v) = k.2 ∙ ap module_fault_view is in
      let same : k.0 ≡ name_view a = cc in
      subst (λ (t : Token). DependsOnItself functions all outer t.lexeme) same k.3
