mod DoubtsWorked
