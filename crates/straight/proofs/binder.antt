mod Binding
