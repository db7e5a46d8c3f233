use Rattle.std.proofs.Common.{sym, ◌∙◌, arith, inl, inr}
use Rattle.text.specs.laws.Joined.{appended_three}
use Rattle.values.specs.laws.SlotTextLaws.{arr_shown, tab_shown, value_one, value_arr, value_tab}
use Rattle.values.proofs.put_value.Goals as goal

pub put_items-requires : goal.put_items-requires
put_items-requires c = (c.requires, (arr_shown _ (sym c.in-Arr.is ∙ c.get-v.ensures)).0)

pub put_entries-requires : goal.put_entries-requires
put_entries-requires c = (c.requires, (tab_shown _ (sym c.in-Tab.is ∙ c.get-v.ensures)).0)

pub returns-in-Arr : goal.returns-in-Arr
returns-in-Arr c = value_arr _ c.get-v.ensures c.in-Arr.is (appended_three c.put_all.ensures c.put_items.ensures c.put_all-in-Arr.ensures)

pub returns-in-Tab : goal.returns-in-Tab
returns-in-Tab c = value_tab _ c.get-v.ensures c.in-Tab.is (appended_three c.put_all-in-Tab.ensures c.put_entries.ensures c.put_all-in-Tab-2.ensures)

pub returns-in-Num : goal.returns-in-Num
returns-in-Num c =
    elim c.in-Num.is [
      | inl h ↦ value_one _ c.get-v.ensures h.1 (omega arith) (omega arith) c.put_single.ensures
      | inr h ↦ elim h [
        | inl h ↦ value_one _ c.get-v.ensures h.1 (omega arith) (omega arith) c.put_single.ensures
        | inr h ↦ elim h [
          | inl h ↦ value_one _ c.get-v.ensures h.1 (omega arith) (omega arith) c.put_single.ensures
          | inr h ↦ value_one _ c.get-v.ensures h (omega arith) (omega arith) c.put_single.ensures
        ]
      ]
    ]
